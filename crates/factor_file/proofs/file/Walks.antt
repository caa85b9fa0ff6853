-- Going over the places of the cell: what was written of those before a place, and what is left from it on.
use mathlib.Core.Path.{◌≡◌, refl, sym, ◌∙◌, ap}
use mathlib.Core.List.{List, [], ◌∷◌}
use Prim.Native.Nat.{ℕ, suc, ◌+◌, ◌-◌, ◌<◌, ◌≤◌}
use native.Mathlib.Omega.{arith}
use lib.ListN.{length, length-append}
use Rattle.algebra.specs.cells.Cell.{J, cell_from}
use Rattle.algebra.proofs.ring.Laws.{along}
use Rattle.cell.specs.declared.operations.Index.{Index}
use Rattle.cell.specs.declared.operations.UnitCell.{UnitCell}
use Rattle.cell.specs.Operations.{triple_of}
use Rattle.output.specs.Written.{Wrote, Ends}
use Rattle.output.proofs.Writing.{wrote_none, wrote_append, wrote_as, wrote_length}
use Rattle.factor_file.specs.Steps.{places_from, Next}
use Rattle.factor_file.proofs.file.Places.{Spreads, NoneBeyond, plane_start, here, on_line, on_plane, in_cell, from_none}

-- ---- the place after one, as the code finds it

after : (f : ℕ → List J) (n : ℕ) → f (suc n) ≡ f (n + 1)
after f n = along f (suc n) (n + 1) (omega arith)

module _ (cell : UnitCell) (j : Index) (a : j.h < cell.n1) (b : j.k < cell.n2) (c : j.l < cell.n3) where
  pub next_on_line : j.l + 1 < cell.n3 → Next cell j (record { h = j.h; k = j.k; l = j.l + 1 })
  next_on_line d = record {
    left = on_line cell j.h j.k j.l a b c (omega arith) ∙ ap (λ t. triple_of j ∷ t) (after (λ m. places_from cell (j.h, j.k, m)) j.l);
    k = b;
    l = d;
  }

  pub next_on_plane : cell.n3 ≤ j.l + 1 → j.k + 1 < cell.n2 → Next cell j (record { h = j.h; k = j.k + 1; l = 0 })
  next_on_plane d e = record {
    left = on_plane cell j.h j.k j.l a b c (omega arith) (omega arith) ∙ ap (λ t. triple_of j ∷ t) (after (λ m. places_from cell (j.h, m, 0)) j.k);
    k = e;
    l = omega arith;
  }

  pub next_in_cell : cell.n3 ≤ j.l + 1 → cell.n2 ≤ j.k + 1 → Next cell j (record { h = j.h + 1; k = 0; l = 0 })
  next_in_cell d e = record {
    left = in_cell cell j.h j.k j.l a b c (omega arith) (omega arith) ∙ ap (λ t. triple_of j ∷ t) (after (λ m. places_from cell (m, 0, 0)) j.h);
    k = omega arith;
    l = omega arith;
  }

-- ---- the first place, and one fewer place in each turn

first_places : (cell : UnitCell) → 0 < cell.n2 → places_from cell (0, 0, 0) ≡ cell_from cell.n3 cell.n2 0 cell.n1
first_places cell b = plane_start cell 0 b ∙ along (cell_from cell.n3 cell.n2 0) (cell.n1 - 0) cell.n1 (omega arith)

pub fewer : {cell : UnitCell} {j r : Index} → Next cell j r → length (places_from cell (triple_of r)) < length (places_from cell (triple_of j))
fewer x = omega (arith, ap length x.left)

module _ {A : Type 0} {R : List J → List A} (s : Spreads R) where
  lengths : (j : J) (l m : List J) → m ≡ j ∷ l → length (R m) ≡ length (R (j ∷ [])) + length (R l)
  lengths j l m e = ap length (ap R e ∙ s.append (j ∷ []) l) ∙ length-append (R (j ∷ [])) (R l)

-- ---- a loop that writes

pub record Putting (R : List J → List ℕ) (cell : UnitCell) (start : ℕ) (before : List ℕ) (at : ℕ) (after : List ℕ) (j : Index) : Type 0 where
  pub k : j.k < cell.n2
  pub l : j.l < cell.n3
  pub place : at + length (R (places_from cell (triple_of j))) ≡ start + length (R (cell_from cell.n3 cell.n2 0 cell.n1))
  pub same : length after ≡ length before
  -- what is left, written from here on, makes the whole
  pub goes : (r : ℕ) (m : List ℕ) → Wrote at (R (places_from cell (triple_of j))) after r m → Wrote start (R (cell_from cell.n3 cell.n2 0 cell.n1)) before r m

pub putting_start : (R : List J → List ℕ) (cell : UnitCell) (start : ℕ) (before : List ℕ) → 0 < cell.n2 → 0 < cell.n3 → Putting R cell start before start before (record { h = 0; k = 0; l = 0 })
putting_start R cell start before b c =
    let e = first_places cell b in
    record { k = b; l = c; place = omega (arith, ap (λ t. length (R t)) e); same = refl; goes = λ r m p. wrote_as p (ap R e) }

module _ {R : List J → List ℕ} (s : Spreads R) {cell : UnitCell} {start at : ℕ} {before after : List ℕ} {j : Index} (c : Putting R cell start before at after j) where
  pub putting_next : {i : Index} {r : ℕ} {m : List ℕ} → Wrote at (R (triple_of j ∷ [])) after r m → Next cell j i → Putting R cell start before r m i
  putting_next {i} o x = record {
    k = x.k;
    l = x.l;
    place = omega (arith, c.place, o.place, lengths s (triple_of j) _ _ x.left);
    same = wrote_length o ∙ c.same;
    goes = λ r m p. c.goes r m (wrote_as (wrote_append o p) (sym (ap R x.left ∙ s.append (triple_of j ∷ []) (places_from cell (triple_of i)))));
  }

  pub putting_ends : {l : List ℕ} → j.h < cell.n1 → R (cell_from cell.n3 cell.n2 0 cell.n1) ≡ l → Ends start l → Ends at (R (triple_of j ∷ []))
  putting_ends a f r = record { low = omega (arith, r.low, c.place, ap length f, lengths s (triple_of j) _ _ (here cell j.h j.k j.l a c.k c.l)) }

  pub putting_done : {l : List ℕ} {m : ℕ} → NoneBeyond R cell.n1 m → m < j.h → R (cell_from cell.n3 cell.n2 0 cell.n1) ≡ l → Wrote start l before at after
  putting_done none h f = wrote_as (c.goes at after (wrote_as (wrote_none at after) (sym (from_none s cell none (triple_of j) h)))) f
