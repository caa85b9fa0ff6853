-- Lists of values: they are read back as they were laid out, and their numbers are residues.
use mathlib.Core.Path.{◌≡◌, sym, ◌∙◌, ap, subst}
use mathlib.Core.List.{List}
use Prim.Native.Nat.{ℕ, ◌*◌, ◌<◌}
use lib.ListN.{length}
use Rattle.numbers.specs.declared.Pair.{Pair}
use Rattle.numbers.specs.Value.{prime, Value, value_of, pair_of}
use Rattle.numbers.proofs.Primes.{prime_pos}
use Rattle.numbers.proofs.Values.{small_pair, value_pair, pair_value}
use Rattle.slices.specs.Pairs.{at, Below, values_of, list_of}
use Rattle.slices.proofs.Pairs.{length_tab, at_tab, tab_cong, is_tab}
use Rattle.slices.proofs.Bounds.{below_tab, small_at}

module _ (m n : ℕ) where
  pub length_list : (f : ℕ → Value m) → length (list_of n f) ≡ 2 * n
  length_list f = length_tab (λ j. pair_of (f j)) n

  pub below_list : (f : ℕ → Value m) → Below (prime m) (list_of n f)
  below_list f = below_tab (prime m) n (λ j. pair_of (f j)) (prime_pos m) (λ j h. small_pair m (f j))

  pub values_list : (f : ℕ → Value m) (j : ℕ) → j < n → values_of m (list_of n f) j ≡ f j
  values_list f j h = ap (value_of m) (at_tab (λ j. pair_of (f j)) n j h) ∙ value_pair m (f j)

  pub list_cong : (f g : ℕ → Value m) → ((j : ℕ) → j < n → f j ≡ g j) → list_of n f ≡ list_of n g
  list_cong f g e = tab_cong n (λ j. pair_of (f j)) (λ j. pair_of (g j)) (λ j h. ap pair_of (e j h))

  -- the same of a list that is known to be one of values
  pub length_of_lem : (f : ℕ → Value m) {l : List ℕ} → l ≡ list_of n f → length l ≡ 2 * n
  length_of_lem f e = ap length e ∙ length_list f

  pub below_of : (f : ℕ → Value m) {l : List ℕ} → l ≡ list_of n f → Below (prime m) l
  below_of f e = subst (Below (prime m)) (sym e) (below_list f)

  pub list_values : (l : List ℕ) → length l ≡ 2 * n → Below (prime m) l → l ≡ list_of n (values_of m l)
  list_values l e b = is_tab n l (λ j. pair_of (values_of m l j)) e (λ j h. sym (pair_value m (small_at (prime m) l j b)))

-- a pair that was read stands for the value at its place
pub read_value : (m : ℕ) {v : Pair} (l : List ℕ) (j : ℕ) → v ≡ at l j → Below (prime m) l → v ≡ pair_of (values_of m l j)
read_value m l j e b = e ∙ sym (pair_value m (small_at (prime m) l j b))
