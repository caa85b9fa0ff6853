-- The line that the code makes of a number is that line of the job; and what is known of it once the code has found it.
use mathlib.Core.Path.{◌≡◌, refl, sym, ◌∙◌, ap, subst}
use mathlib.Core.Logic.{inl, inr}
use mathlib.Core.Bool.{Bool, false, cond}
use mathlib.Core.List.{List}
use Prim.Native.Nat.{ℕ, zero, suc, ◌+◌, ◌*◌, ◌-◌, ◌/◌, ◌%◌, ◌<◌, ◌≤◌}
use native.Mathlib.Omega.{arith}
use borrow.Author.Tests.{eq-eqb, ne_eqb}
use Rattle.algebra.specs.lines.Kinds.{Kind, slots, Kind.plain}
use Rattle.algebra.proofs.ring.Laws.{along}
use Rattle.lengths.specs.Lengths.{kind_of, pair_count}
use Rattle.lengths.specs.Admitted.{AdmittedLength, FactorList}
use Rattle.cell.specs.Volume.{line_kind, rotated, first_pair}
use Rattle.cell.specs.Operations.{Sizes}
use Rattle.volume_transform.specs.Axes.{turned_line, turned_stored, turned_row, turn_of, numbers_of, along_l, along_h, along_k, line_count, line_of_turn, turned_l, turned_h, turned_k}
use Rattle.volume_transform.specs.Lines.{SoundLine, numbers_in, gathered_turn, row_turn, line_turned}
use Rattle.volume_transform.specs.Plans.{plan_group, plan_halves, Planned, line_turn, plan_numbers, Counted, Gathered, Row, LineAt}
use Rattle.volume_transform.specs.declared.plan.Plan.{Plan}
use Rattle.volume_transform.specs.declared.plan.Counts.{Counts}
use Rattle.volume_transform.specs.declared.plan.Line.{Line}
use Rattle.volume_transform.proofs.plan.Numbered.{by_places, numbers_at_lem, turn_l, turn_h, turn_k, numbers_of_l, numbers_of_h, numbers_of_k, order_k, order_h, order_l}
use Rattle.volume_transform.proofs.plan.JobTurns.{twice, next, fits_l, turned_l_lem, numbers_l, fits_h, place_h, row_fits, row_low}

-- ---- the lines along each axis

beside : (s j : ℕ) → s + j * 1 ≡ s + j
beside s j = omega arith

as_packed : (m A direction : ℕ) (kind : Kind) (l : List ℕ) → turned_stored m A direction false kind l ≡ turned_line m A direction kind l
as_packed m A zero kind l = refl
as_packed m A (suc d) kind l = refl

module _ (p : Plan) (ok : Planned p) where
  abbrev sizes : Sizes p.cell
  sizes = ok.sizes.sizes

  abbrev width : ℕ
  width = p.cell.n2 / 2 + 1

  -- a line of length n = 2 (n / 2) along one of the axes
  sound : (kind : ℕ) (b : Bool) (n factors start stride count : ℕ) → kind < 6 → n ≡ 2 * (n / 2) → AdmittedLength n → FactorList n factors
      → SoundLine (record { m = p.m; direction = p.direction; kind = kind; rotated = b; factors = factors; half = n / 2; start = start; stride = stride; count = count })
  sound kind b n factors start stride count known e size list = record {
    modulus = ok.modulus;
    directed = ok.directed;
    known = known;
    size = subst AdmittedLength e size;
    list = subst (λ n. FactorList n factors) e list;
  }

  module _ (y kind f count : ℕ) (b : Bool) (l : y < (along_l (plan_group p) (plan_halves p)).count) (known : kind < 6) (e : kind_of kind ≡ line_kind (plan_group p) (y / width)) (eb : b ≡ rotated (plan_group p) (y / width)) (other : kind ≡ 1 → ⊥)
      (ef : f ≡ first_pair (kind_of kind)) (low : f ≤ 1) (ec : count ≡ pair_count kind p.cell.n3) (few : count ≤ 2880) where
    pub gathered_l : Gathered p (turn_of (along_l (plan_group p) (plan_halves p)) (turned_l (plan_group p) (plan_halves p) p.m p.direction) y) (numbers_of (along_l (plan_group p) (plan_halves p)) y)
        (record { m = p.m; direction = p.direction; kind = kind; rotated = b; factors = p.f3; half = p.cell.n3 / 2; start = y + f * (p.cell.n1 * width); stride = p.cell.n1 * width; count = count })
    gathered_l = record {
      modulus = refl;
      direction = refl;
      other = other;
      placed = record {
        sound = sound kind b p.cell.n3 p.f3 _ _ _ known (omega (arith, sizes.third.even)) ok.sizes.third ok.sizes.third_list;
        counted = ec;
        low = few;
        fits = fits_l sizes y kind f count e eb ef low ec l;
      };
      turn = turned_l_lem sizes y kind f count e eb ef low ec p.m p.direction;
      numbers = numbers_l sizes y kind f count e eb ef low ec;
    }

  module _ (y : ℕ) (l : y < (along_h (plan_group p) (plan_halves p)).count) where
    pub gathered_h : Gathered p (turn_of (along_h (plan_group p) (plan_halves p)) (turned_h (plan_group p) (plan_halves p) p.m p.direction) y) (numbers_of (along_h (plan_group p) (plan_halves p)) y)
        (record { m = p.m; direction = p.direction; kind = 0; rotated = false; factors = p.f1; half = p.cell.n1 / 2; start = y / width * (p.cell.n1 * width) + y % width; stride = width; count = p.cell.n1 })
    unfolding slots
    gathered_h = record {
      modulus = refl;
      direction = refl;
      other = λ e. omega arith;
      placed = record {
        sound = sound 0 false p.cell.n1 p.f1 _ _ _ (omega arith) (twice sizes) ok.sizes.first ok.sizes.first_list;
        counted = twice sizes;
        low = sizes.first.high;
        fits = fits_h sizes y l;
      };
      turn = λ v. by_places (along_h (plan_group p) (plan_halves p)) (turned_h (plan_group p) (plan_halves p) p.m p.direction) y p.cell.n1 _ (turned_stored p.m (p.cell.n1 / 2) p.direction false plain) v _ (twice sizes) (λ j lj. place_h sizes y l j) (as_packed p.m (p.cell.n1 / 2) p.direction plain) refl;
      numbers = λ v. numbers_at_lem (along_h (plan_group p) (plan_halves p)) y p.cell.n1 _ v (twice sizes) (λ j lj. place_h sizes y l j);
    }

  module _ (y : ℕ) (l : y < (along_k (plan_group p) (plan_halves p)).count) where
    pub row_k : Row p (turn_of (along_k (plan_group p) (plan_halves p)) (turned_k (plan_group p) (plan_halves p) p.m p.direction) y) (numbers_of (along_k (plan_group p) (plan_halves p)) y)
        (record { m = p.m; direction = p.direction; kind = 1; rotated = false; factors = p.f2; half = p.cell.n2 / 2; start = y * width; stride = 1; count = width })
    row_k = record {
      modulus = refl;
      direction = refl;
      placed = record {
        sound = sound 1 false p.cell.n2 p.f2 _ _ _ (omega arith) (omega (arith, sizes.second.even)) ok.sizes.second ok.sizes.second_list;
        hermitian = refl;
        counted = refl;
        next = refl;
        fits = row_fits sizes y l;
        low = row_low sizes y l;
      };
      turn = λ v. by_places (along_k (plan_group p) (plan_halves p)) (turned_k (plan_group p) (plan_halves p) p.m p.direction) y width (λ j. y * width + j) (turned_row p.m (p.cell.n2 / 2) p.direction) v _ (next sizes) (λ j lj. ap (λ k. y * k + j) (next sizes)) (λ x. refl) refl;
      numbers = λ v. numbers_at_lem (along_k (plan_group p) (plan_halves p)) y width _ v (next sizes) (λ j lj. beside (y * width) j ∙ ap (λ k. y * k + j) (next sizes));
    }

-- ---- which line a number stands for

pub counted_lines : {p : Plan} {c : Counts} → Counted p c → c.l + c.h + c.k ≡ line_count (plan_group p) (plan_halves p)
counted_lines counts = omega (arith, counts.l, counts.h, counts.k)

module _ {p : Plan} {x : Line} {step other own mine : List ℕ → List ℕ} (e : (v : List ℕ) → other v ≡ step v) (f : (v : List ℕ) → mine v ≡ own v) where
  gathered_as : Gathered p step own x → Gathered p other mine x
  gathered_as g = record { modulus = g.modulus; direction = g.direction; other = g.other; placed = g.placed; turn = λ v. g.turn v ∙ sym (e v); numbers = λ v. g.numbers v ∙ sym (f v) }

  row_as : Row p step own x → Row p other mine x
  row_as r = record { modulus = r.modulus; direction = r.direction; placed = r.placed; turn = λ v. r.turn v ∙ sym (e v); numbers = λ v. r.numbers v ∙ sym (f v) }

module _ (p : Plan) (c : Counts) (counts : Counted p c) (j : ℕ) {x : Line} where
  pub gathered_at_l : j < c.l → Gathered p (turn_of (along_l (plan_group p) (plan_halves p)) (turned_l (plan_group p) (plan_halves p) p.m p.direction) j) (numbers_of (along_l (plan_group p) (plan_halves p)) j) x → Gathered p (line_turn p j) (plan_numbers p j) x
  gathered_at_l lt g = gathered_as
      (λ v. along (λ q. line_turn p q v) j (0 + j) (omega arith) ∙ turn_l (plan_group p) (plan_halves p) p.m p.direction j (omega (arith, counts.l)) v)
      (λ v. along (λ q. plan_numbers p q v) j (0 + j) (omega arith) ∙ numbers_of_l (plan_group p) (plan_halves p) j (omega (arith, counts.l)) v) g

  pub at_l : j < c.l → Gathered p (turn_of (along_l (plan_group p) (plan_halves p)) (turned_l (plan_group p) (plan_halves p) p.m p.direction) j) (numbers_of (along_l (plan_group p) (plan_halves p)) j) x → LineAt p j x
  at_l lt g = inl (gathered_at_l lt g)

  pub gathered_at_h : c.l ≤ j → j < c.l + c.h → Gathered p (turn_of (along_h (plan_group p) (plan_halves p)) (turned_h (plan_group p) (plan_halves p) p.m p.direction) (j - c.l)) (numbers_of (along_h (plan_group p) (plan_halves p)) (j - c.l)) x → Gathered p (line_turn p j) (plan_numbers p j) x
  gathered_at_h ge lt g = gathered_as
      (λ v. along (λ q. line_turn p q v) j ((along_l (plan_group p) (plan_halves p)).count + (j - c.l)) (omega (arith, counts.l)) ∙ turn_h (plan_group p) (plan_halves p) p.m p.direction (j - c.l) (omega (arith, counts.h)) v)
      (λ v. along (λ q. plan_numbers p q v) j ((along_l (plan_group p) (plan_halves p)).count + (j - c.l)) (omega (arith, counts.l)) ∙ numbers_of_h (plan_group p) (plan_halves p) (j - c.l) (omega (arith, counts.h)) v) g

  pub at_h : c.l ≤ j → j < c.l + c.h → Gathered p (turn_of (along_h (plan_group p) (plan_halves p)) (turned_h (plan_group p) (plan_halves p) p.m p.direction) (j - c.l)) (numbers_of (along_h (plan_group p) (plan_halves p)) (j - c.l)) x → LineAt p j x
  at_h ge lt g = inl (gathered_at_h ge lt g)

  pub row_at_k : c.l + c.h ≤ j → Row p (turn_of (along_k (plan_group p) (plan_halves p)) (turned_k (plan_group p) (plan_halves p) p.m p.direction) (j - (c.l + c.h))) (numbers_of (along_k (plan_group p) (plan_halves p)) (j - (c.l + c.h))) x → Row p (line_turn p j) (plan_numbers p j) x
  row_at_k ge r = row_as
      (λ v. along (λ q. line_turn p q v) j ((along_l (plan_group p) (plan_halves p)).count + (along_h (plan_group p) (plan_halves p)).count + (j - (c.l + c.h))) (omega (arith, counts.l, counts.h)) ∙ turn_k (plan_group p) (plan_halves p) p.m p.direction (j - (c.l + c.h)) v)
      (λ v. along (λ q. plan_numbers p q v) j ((along_l (plan_group p) (plan_halves p)).count + (along_h (plan_group p) (plan_halves p)).count + (j - (c.l + c.h))) (omega (arith, counts.l, counts.h)) ∙ numbers_of_k (plan_group p) (plan_halves p) (j - (c.l + c.h)) v) r

  pub at_k : c.l + c.h ≤ j → Row p (turn_of (along_k (plan_group p) (plan_halves p)) (turned_k (plan_group p) (plan_halves p) p.m p.direction) (j - (c.l + c.h))) (numbers_of (along_k (plan_group p) (plan_halves p)) (j - (c.l + c.h))) x → LineAt p j x
  at_k ge r = inr (row_at_k ge r)

-- ---- the line that was found

module _ (x : Line) (v : List ℕ) where
  pub row_is : x.kind ≡ 1 → row_turn x v ≡ line_turned x v
  row_is e = ap (λ b. cond b (row_turn x v) (gathered_turn x v)) (sym (eq-eqb _ _ e))

  pub gathered_is : (x.kind ≡ 1 → ⊥) → gathered_turn x v ≡ line_turned x v
  gathered_is n = ap (λ b. cond b (row_turn x v) (gathered_turn x v)) (sym (ne_eqb _ _ n))

module _ (p : Plan) (j : ℕ) (x : Line) where
  pub modulus_is : LineAt p j x → x.m ≡ p.m
  modulus_is (inl g) = g.modulus
  modulus_is (inr r) = r.modulus

  pub numbers_as : LineAt p j x → (v : List ℕ) → numbers_in x v ≡ plan_numbers p j v
  numbers_as (inl g) v = g.numbers v
  numbers_as (inr r) v = r.numbers v

  pub turned_as : LineAt p j x → (v : List ℕ) → line_turned x v ≡ line_turn p j v
  turned_as (inl g) v = sym (gathered_is x v g.other) ∙ g.turn v
  turned_as (inr r) v = sym (row_is x v r.placed.hermitian) ∙ r.turn v

-- ---- the order of the turns

module _ (p : Plan) (c : Counts) (counts : Counted p c) (n : ℕ) (low : n < line_count (plan_group p) (plan_halves p)) where
  abbrev TurnOf : ℕ → Type 0
  TurnOf j = (j ≡ line_of_turn (plan_group p) (plan_halves p) p.direction n) × (j < line_count (plan_group p) (plan_halves p))

  pub turn_same : p.direction ≡ 0 → TurnOf n
  unfolding line_of_turn
  turn_same e = (ap (λ d. line_of_turn (plan_group p) (plan_halves p) d n) (sym e), low)

  module _ (back : p.direction ≡ 1) where
    taken : (j : ℕ) → j ≡ line_of_turn (plan_group p) (plan_halves p) 1 n → j < line_count (plan_group p) (plan_halves p) → TurnOf j
    taken j e l = (e ∙ ap (λ d. line_of_turn (plan_group p) (plan_halves p) d n) (sym back), l)

    pub turn_back_k : n < c.k → TurnOf (c.l + c.h + n)
    turn_back_k l = taken _
        (omega (arith, counts.l, counts.h, along (line_of_turn (plan_group p) (plan_halves p) 1) n (0 + n) (omega arith) ∙ order_k (plan_group p) (plan_halves p) n (omega (arith, counts.k))))
        (omega (arith, counts.l, counts.h, counts.k))

    pub turn_back_h : c.k ≤ n → n < c.k + c.h → TurnOf (c.l + (n - c.k))
    turn_back_h g l = taken _
        (omega (arith, counts.l, along (line_of_turn (plan_group p) (plan_halves p) 1) n ((along_k (plan_group p) (plan_halves p)).count + (n - c.k)) (omega (arith, counts.k)) ∙ order_h (plan_group p) (plan_halves p) (n - c.k) (omega (arith, counts.h))))
        (omega (arith, counts.l, counts.h, counts.k))

    pub turn_back_l : c.k + c.h ≤ n → TurnOf (n - (c.k + c.h))
    turn_back_l g = taken _
        (omega (arith, along (line_of_turn (plan_group p) (plan_halves p) 1) n ((along_k (plan_group p) (plan_halves p)).count + (along_h (plan_group p) (plan_halves p)).count + (n - (c.k + c.h))) (omega (arith, counts.k, counts.h)) ∙ order_l (plan_group p) (plan_halves p) (n - (c.k + c.h)) (omega (arith, counts.k, counts.h))))
        (omega (arith, counts.l, counts.h, counts.k))
