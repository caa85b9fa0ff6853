-- Line after line of a job: a run of turns is a sweep along each axis, in the order of the lines' numbers; a turn keeps the volume's length and its residues.
use mathlib.Core.Path.{◌≡◌, refl, ◌∙◌, ap}
use mathlib.Core.Bool.{Bool, true, false, cond}
use mathlib.Core.List.{List}
use Prim.Native.Nat.{ℕ, zero, suc, ◌+◌, ◌-◌, ◌<◌}
use native.Mathlib.Nat.{add-zero, add-suc}
use native.Mathlib.Omega.{arith}
use lib.Dec.{ltb}
use lib.ListN.{length}
use Rattle.algebra.specs.lines.Kinds.{Kind, Kind.plain}
use Rattle.algebra.specs.cells.Cell.{J, Group}
use Rattle.algebra.proofs.ring.Laws.{along}
use Rattle.numbers.specs.Value.{prime, Value, pair_of}
use Rattle.numbers.specs.Bounds.{Small, zero_pair}
use Rattle.numbers.proofs.Primes.{prime_pos}
use Rattle.numbers.proofs.Values.{small_pair}
use Rattle.slices.specs.Pairs.{Below}
use Rattle.slices.specs.Sweep.{Layout, sweep, on_lists}
use Rattle.slices.proofs.Pairs.{length_puts}
use Rattle.slices.proofs.Bounds.{small_at, below_puts, below_tab}
use Rattle.slices.proofs.Values.{below_list}
use Rattle.cell.specs.Rows.{unpacked_row}
use Rattle.volume_transform.specs.Axes.{turn_of, numbers_of, line_numbers, along_l, along_h, along_k, line_count, line_of_turn, turned_l, turned_h, turned_k, job_turn, turned_line, turned_stored, turned_row}
use Rattle.volume_transform.proofs.plan.Numbered.{order_k, order_h, order_l}
use Rattle.volume_transform.specs.Turns.{turns}

module _ (step : ℕ → List ℕ → List ℕ) where
  pub turns_one : (j : ℕ) (d : List ℕ) → turns step j 1 d ≡ step j d
  unfolding turns
  turns_one j d = along (λ q. step q d) (j + 0) j (omega arith)

  pub turns_add : (j n p : ℕ) (d : List ℕ) → turns step j (n + p) d ≡ turns step (j + n) p (turns step j n d)
  unfolding turns
  turns_add j n zero d = rw add-zero
  turns_add j n (suc p) d = rw add-suc (ap (step (j + (n + p))) (turns_add j n p d) ∙ along (λ q. step q (turns step (j + n) p (turns step j n d))) (j + (n + p)) (j + n + p) (omega arith))

  pub turns_sweep : (L : Layout) (G : ℕ → List ℕ → List ℕ) (j n : ℕ) (d : List ℕ) → ((y : ℕ) → y < n → (d : List ℕ) → step (j + y) d ≡ turn_of L G y d) → turns step j n d ≡ sweep L (on_lists L G) n d
  unfolding turns sweep
  turns_sweep L G j zero d e = refl
  turns_sweep L G j (suc n) d e = e n (omega arith) (turns step j n d) ∙ ap (turn_of L G n) (turns_sweep L G j n d (λ y l. e y (omega arith)))

  -- what every turn keeps, a run of turns keeps
  pub turns_keep : (P : List ℕ → Type 0) → ((j : ℕ) (d : List ℕ) → P d → P (step j d)) → (j n : ℕ) (d : List ℕ) → P d → P (turns step j n d)
  unfolding turns
  turns_keep P k j zero d h = h
  turns_keep P k j (suc n) d h = k (j + n) (turns step j n d) (turns_keep P k j n d h)

-- the same turns under other numbers
pub turns_shift : (step other : ℕ → List ℕ → List ℕ) (i j n : ℕ) (d : List ℕ) → ((y : ℕ) → y < n → (d : List ℕ) → step (i + y) d ≡ other (j + y) d) → turns step i n d ≡ turns other j n d
unfolding turns
turns_shift step other i j zero d e = refl
turns_shift step other i j (suc n) d e = e n (omega arith) (turns step i n d) ∙ ap (other (j + n)) (turns_shift step other i j n d (λ y l. e y (omega arith)))

-- three runs, the last numbers first
pub turns_back : (step : ℕ → List ℕ → List ℕ) (order : ℕ → ℕ) (f s t : ℕ) → ((y : ℕ) → y < t → order (0 + y) ≡ f + s + y) → ((y : ℕ) → y < s → order (t + y) ≡ f + y) → ((y : ℕ) → y < f → order (t + s + y) ≡ 0 + y) → (d : List ℕ)
    → turns (λ n. step (order n)) 0 (f + s + t) d ≡ turns step 0 f (turns step f s (turns step (f + s) t d))
turns_back step order f s t k h l d =
    along (λ n. turns taken 0 n d) (f + s + t) (t + s + f) (omega arith)
    ∙ turns_add taken 0 (t + s) f d
    ∙ along (λ j. turns taken j f (turns taken 0 (t + s) d)) (0 + (t + s)) (t + s) (omega arith)
    ∙ turns_shift taken step (t + s) 0 f _ (λ y lt v. ap (λ q. step q v) (l y lt))
    ∙ ap (turns step 0 f)
    (turns_add taken 0 t s d
    ∙ along (λ j. turns taken j s (turns taken 0 t d)) (0 + t) t (omega arith)
    ∙ turns_shift taken step t f s _ (λ y lt v. ap (λ q. step q v) (h y lt))
    ∙ ap (turns step f s) (turns_shift taken step 0 (f + s) t d (λ y lt v. ap (λ q. step q v) (k y lt))))
  where
    taken : ℕ → List ℕ → List ℕ
    taken n v = step (order n) v

pub length_turn : (L : Layout) (G : ℕ → List ℕ → List ℕ) (y : ℕ) (d : List ℕ) → length (turn_of L G y d) ≡ length d
length_turn L G y d = length_puts (L.place y) _ (L.size y) d

pub below_turn : {p : ℕ} (L : Layout) (G : ℕ → List ℕ → List ℕ) (y : ℕ) (d : List ℕ) → ((l : List ℕ) → Below p (G y l)) → Below p d → Below p (turn_of L G y d)
below_turn {p} L G y d b h = below_puts (L.place y) _ (L.size y) h (λ t lt. small_at p (G y _) t (b _))

-- the numbers of a transformed line and of a row are residues
module _ (m A : ℕ) where
  pub below_stored : (direction : ℕ) (b : Bool) (k : Kind) (l : List ℕ) → Below (prime m) (turned_stored m A direction b k l)
  below_stored zero b k l = below_list m _ _
  below_stored (suc d) b k l = below_list m _ _

  pub below_line : (direction : ℕ) (k : Kind) (l : List ℕ) → Below (prime m) (turned_line m A direction k l)
  below_line zero k l = below_list m _ _
  below_line (suc d) k l = below_list m _ _

  zero_small : Small (prime m) zero_pair
  zero_small = record { re = prime_pos m; im = prime_pos m }

  forward_small : (b : Bool) (z : Value m) → Small (prime m) (cond b (pair_of z) zero_pair)
  forward_small true z = small_pair m z
  forward_small false z = zero_small

  unpacked_row_small : (v : ℕ → Value m) (t : ℕ) → Small (prime m) (unpacked_row A (λ t. pair_of (v t)) t)
  unfolding unpacked_row
  unpacked_row_small v zero = record { re = (small_pair m (v 0)).re; im = prime_pos m }
  unpacked_row_small v (suc t) = go (ltb (suc t) A)
    where
      go : (b : Bool) → Small (prime m) (cond b (pair_of (v (suc t))) (record { re = (pair_of (v 0)).im; im = 0 }))
      go true = small_pair m (v (suc t))
      go false = record { re = (small_pair m (v 0)).im; im = prime_pos m }

  pub below_row : (direction : ℕ) (l : List ℕ) → Below (prime m) (turned_row m A direction l)
  below_row zero l = below_tab (prime m) (suc A) _ (prime_pos m) (λ t lt. forward_small (ltb t A) _)
  below_row (suc d) l = below_tab (prime m) (suc A) _ (prime_pos m) (λ t lt. unpacked_row_small _ t)

module _ (g : Group) (a : J) (m direction : ℕ) where
  by_turn : (P : List ℕ → Type 0) (j : ℕ) (d : List ℕ)
      → ((y : ℕ) → P (turn_of (along_l g a) (turned_l g a m direction) y d)) → ((y : ℕ) → P (turn_of (along_h g a) (turned_h g a m direction) y d)) → ((y : ℕ) → P (turn_of (along_k g a) (turned_k g a m direction) y d))
      → P (job_turn g a m direction j d)
  unfolding job_turn
  by_turn P j d l h k = go (ltb j (along_l g a).count) (ltb j ((along_l g a).count + (along_h g a).count))
    where
      go : (b c : Bool) → P (cond b (turn_of (along_l g a) (turned_l g a m direction) j d) (cond c (turn_of (along_h g a) (turned_h g a m direction) (j - (along_l g a).count) d) (turn_of (along_k g a) (turned_k g a m direction) (j - ((along_l g a).count + (along_h g a).count)) d)))
      go true c = l _
      go false true = h _
      go false false = k _

  pub length_job_turn : (j : ℕ) (d : List ℕ) → length (job_turn g a m direction j d) ≡ length d
  length_job_turn j d = by_turn (λ v. length v ≡ length d) j d (λ y. length_turn (along_l g a) (turned_l g a m direction) y d) (λ y. length_turn (along_h g a) (turned_h g a m direction) y d) (λ y. length_turn (along_k g a) (turned_k g a m direction) y d)

  pub below_job_turn : (j : ℕ) (d : List ℕ) → Below (prime m) d → Below (prime m) (job_turn g a m direction j d)
  below_job_turn j d b = by_turn (Below (prime m)) j d
      (λ y. below_turn (along_l g a) (turned_l g a m direction) y d (below_stored m a.2 direction _ _) b)
      (λ y. below_turn (along_h g a) (turned_h g a m direction) y d (below_line m a.0 direction plain) b)
      (λ y. below_turn (along_k g a) (turned_k g a m direction) y d (below_row m a.1 direction) b)

  -- in whatever order the lines are taken
  module _ (order : ℕ → ℕ) where
    abbrev taken : ℕ → List ℕ → List ℕ
    taken n d = job_turn g a m direction (order n) d

    pub length_turns : (n : ℕ) (d : List ℕ) → length (turns taken 0 n d) ≡ length d
    length_turns n d = turns_keep taken (λ v. length v ≡ length d) (λ j v e. length_job_turn (order j) v ∙ e) 0 n d refl

    pub below_turns : (n : ℕ) (d : List ℕ) → Below (prime m) d → Below (prime m) (turns taken 0 n d)
    below_turns n d b = turns_keep taken (Below (prime m)) (λ j v. below_job_turn (order j) v) 0 n d b

  -- analysis takes the axes in the other order
  pub turned_back : (d : List ℕ) → turns (λ n v. job_turn g a m direction (line_of_turn g a 1 n) v) 0 (line_count g a) d
      ≡ turns (job_turn g a m direction) 0 (along_l g a).count (turns (job_turn g a m direction) (along_l g a).count (along_h g a).count (turns (job_turn g a m direction) ((along_l g a).count + (along_h g a).count) (along_k g a).count d))
  turned_back d = turns_back (job_turn g a m direction) (line_of_turn g a 1) (along_l g a).count (along_h g a).count (along_k g a).count (order_k g a) (order_h g a) (order_l g a) d

  pub turned_along : (n : ℕ) (d : List ℕ) → turns (λ n v. job_turn g a m direction (line_of_turn g a 0 n) v) 0 n d ≡ turns (job_turn g a m direction) 0 n d
  unfolding line_of_turn
  turned_along n d = refl

-- the numbers of a line are among those of the volume
module _ (g : Group) (a : J) (m : ℕ) where
  below_of : (L : Layout) (y : ℕ) (d : List ℕ) → Below (prime m) d → Below (prime m) (numbers_of L y d)
  below_of L y d b = below_tab (prime m) (L.size y) _ (prime_pos m) (λ i l. small_at (prime m) d (L.place y i) b)

  pub below_numbers : (j : ℕ) (d : List ℕ) → Below (prime m) d → Below (prime m) (line_numbers g a j d)
  unfolding line_numbers
  below_numbers j d b = go (ltb j (along_l g a).count) (ltb j ((along_l g a).count + (along_h g a).count))
    where
      go : (b c : Bool) → Below (prime m) (cond b (numbers_of (along_l g a) j d) (cond c (numbers_of (along_h g a) (j - (along_l g a).count) d) (numbers_of (along_k g a) (j - ((along_l g a).count + (along_h g a).count)) d)))
      go true c = below_of (along_l g a) j d b
      go false true = below_of (along_h g a) (j - (along_l g a).count) d b
      go false false = below_of (along_k g a) (j - ((along_l g a).count + (along_h g a).count)) d b
