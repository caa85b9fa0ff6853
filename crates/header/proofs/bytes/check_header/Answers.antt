-- Each return is the first test that holds, all the others before it being passed over.
use mathlib.Core.Path.{subst}
use Prim.Native.Nat.{ℕ, ◌<◌, ◌≤◌}
use borrow.Author.Tests.{lt-ltb, le-ltb}
use Rattle.refusals.proofs.Tests.{stop, pass, none, not_t, not_f, by_true, by_false}
use Rattle.header.proofs.Headers.{sizes_of, short_lengths}
use Rattle.header.proofs.bytes.check_header.Goals as goal

pub returns-then-not-all_admitted : goal.returns-then-not-all_admitted
returns-then-not-all_admitted c = stop _ (not_f _ (by_false _ _ c.all_admitted.ensures c.if-not-all_admitted.true))

pub returns-then-not-all_factors : goal.returns-then-not-all_factors
returns-then-not-all_factors c =
    pass 3 _ (not_t _ (by_true _ _ c.all_admitted.ensures c.if-not-all_admitted.false))
    (stop _ (not_f _ (by_false _ _ c.all_factors.ensures c.if-not-all_factors.true)))

pub all_products-requires : goal.all_products-requires
all_products-requires c = record {
  cell_value = by_true _ _ c.all_admitted.ensures c.if-not-all_admitted.false;
  f3_value = by_true _ _ c.all_factors.ensures c.if-not-all_factors.false;
}

pub returns-then-not-all_products : goal.returns-then-not-all_products
returns-then-not-all_products c =
    pass 3 _ (not_t _ (by_true _ _ c.all_admitted.ensures c.if-not-all_admitted.false))
    (pass 4 _ (not_t _ (by_true _ _ c.all_factors.ensures c.if-not-all_factors.false))
    (stop _ (not_f _ (by_false _ _ c.all_products.ensures c.if-not-all_products.true))))

pub volume_length-needed-requires : goal.volume_length-needed-requires
volume_length-needed-requires c = short_lengths (sizes_of c.requires (by_true _ _ c.all_admitted.ensures c.if-not-all_admitted.false))

pub returns-then-needed-gt16777216 : goal.returns-then-needed-gt16777216
returns-then-needed-gt16777216 c =
    pass 3 _ (not_t _ (by_true _ _ c.all_admitted.ensures c.if-not-all_admitted.false))
    (pass 4 _ (not_t _ (by_true _ _ c.all_factors.ensures c.if-not-all_factors.false))
    (pass 5 _ (not_t _ (by_true _ _ c.all_products.ensures c.if-not-all_products.false))
    (stop _ (lt-ltb _ _ (subst (λ (n : ℕ). 16777216 < n) c.volume_length-needed.ensures c.if-needed-gt16777216.true)))))

pub returns : goal.returns
returns c =
    pass 3 _ (not_t _ (by_true _ _ c.all_admitted.ensures c.if-not-all_admitted.false))
    (pass 4 _ (not_t _ (by_true _ _ c.all_factors.ensures c.if-not-all_factors.false))
    (pass 5 _ (not_t _ (by_true _ _ c.all_products.ensures c.if-not-all_products.false))
    (pass 9 _ (le-ltb _ _ (subst (λ (n : ℕ). n ≤ 16777216) c.volume_length-needed.ensures c.if-needed-gt16777216.false)) none)))
