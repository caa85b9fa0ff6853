-- The sums of one butterfly, stored one after the other.
use mathlib.Core.Path.{◌≡◌, refl, sym, ◌∙◌, ap}
use mathlib.Core.List.{List}
use Prim.Native.Nat.{ℕ, ◌+◌, ◌*◌, ◌<◌}
use Rattle.algebra.specs.ring.Ring.{Ops}
use Rattle.algebra.specs.ring.RingLaws.{CRing}
use Rattle.algebra.proofs.fourier.Sums.{sum_cong}
use Rattle.numbers.specs.declared.Pair.{Pair}
use Rattle.numbers.specs.declared.Accumulator.{Accumulator}
use Rattle.numbers.specs.Value.{Value, pair_of}
use Rattle.numbers.proofs.Values.{field_ring}
use lib.ListN.{length}
use Rattle.slices.specs.Pairs.{Below, put, puts}
use Rattle.slices.proofs.Pairs.{puts_next, puts_ext}
use Rattle.numbers.specs.Unreduced.{meant}
use Rattle.butterflies.specs.Equation3.{e, outer}
use Rattle.butterflies.specs.Butterflies.{of_two_sums, of_three_sums, of_four_sums, of_five_sums, AllRoom, Butterfly, Loaded, FactorsOf, spread, outer_sums, AllLoaded, Reads, Stores}
use Rattle.butterflies.proofs.Cases.{below_2, below_3, below_4, below_5}
use Rattle.butterflies.specs.declared.twiddle.Places.{Places}

module _ (p : Places) (f : ℕ → Pair) (d₀ : List ℕ) where
  pub spread_none : d₀ ≡ spread p f 0 d₀
  unfolding puts
  spread_none = refl

  pub spread_more : {d d' : List ℕ} (c : ℕ) → d ≡ spread p f c d₀ → d' ≡ put d (p.base + c * p.gap) (f c) → d' ≡ spread p f (c + 1) d₀
  spread_more c h s = s ∙ ap (λ d. put d (p.base + c * p.gap) (f c)) h ∙ sym (puts_next (λ c. p.base + c * p.gap) f c d₀)

  -- two at once
  pub spread_next : {d d' : List ℕ} (c : ℕ) → d ≡ spread p f c d₀ → d' ≡ put (put d (p.base + c * p.gap) (f c)) (p.base + (c + 1) * p.gap) (f (c + 1)) → d' ≡ spread p f (c + 1 + 1) d₀
  spread_next c h s = spread_more (c + 1) (spread_more c h refl) s

-- outer sums of the same values
module _ {R : Type 0} {𝓞 : Ops R} (𝓡 : CRing 𝓞) (W : R) where
  pub outer_cong : (B : ℕ) (X Y : ℕ → R) (c : ℕ) → ((b : ℕ) → b < B → X b ≡ Y b) → outer 𝓞 W B X c ≡ outer 𝓞 W B Y c
  unfolding outer
  outer_cong B X Y c h = sum_cong 𝓡 B _ _ (λ b l. ap (𝓞.mul (e 𝓞 W B (b * c))) (h b l))

-- what is asked of a radix is what the reading of each of its values asks
pub asked : {B n : ℕ} {l d : List ℕ} {p : Places} → Reads B p l × Stores B p d × Below n l → (b : ℕ) → b < B
    → (2 * (b * p.stride + p.first) + 1 < length l) × (b * p.k < 2880) × Below n l
asked h b lt = (h.0.inside b lt, h.0.exponents b lt, h.2)

-- the values are read one after the other
module _ {m : ℕ} {W : Value m} {p : Places} {l : List ℕ} {x0 x1 : Accumulator} (h0 : Loaded m W p l 0 x0) (h1 : Loaded m W p l 1 x1) where
  pub two_loaded : AllLoaded m W 2 p l (of_two_sums (record { x0 = x0; x1 = x1 }))
  two_loaded = record { each = below_2 (λ b. Loaded m W p l b (of_two_sums _ b)) h0 h1 }

  module _ {x2 : Accumulator} (h2 : Loaded m W p l 2 x2) where
    pub three_loaded : AllLoaded m W 3 p l (of_three_sums (record { x0 = x0; x1 = x1; x2 = x2 }))
    three_loaded = record { each = below_3 (λ b. Loaded m W p l b (of_three_sums _ b)) h0 h1 h2 }

    module _ {x3 : Accumulator} (h3 : Loaded m W p l 3 x3) where
      pub four_loaded : AllLoaded m W 4 p l (of_four_sums (record { x0 = x0; x1 = x1; x2 = x2; x3 = x3 }))
      four_loaded = record { each = below_4 (λ b. Loaded m W p l b (of_four_sums _ b)) h0 h1 h2 h3 }

      pub five_loaded : {x4 : Accumulator} → Loaded m W p l 4 x4 → AllLoaded m W 5 p l (of_five_sums (record { x0 = x0; x1 = x1; x2 = x2; x3 = x3; x4 = x4 }))
      five_loaded h4 = record { each = below_5 (λ b. Loaded m W p l b (of_five_sums _ b)) h0 h1 h2 h3 h4 }

-- the loaded sums are what a butterfly takes
pub all_room : {m B : ℕ} {W : Value m} {p : Places} {l : List ℕ} {x : ℕ → Accumulator} → AllLoaded m W B p l x → AllRoom B x
all_room h = record { each = λ b lt. (h.each b lt).room }

-- read, summed and stored
pub butterfly_stored : (m : ℕ) {W : Value m} {B : ℕ} {l d' : List ℕ} {x : ℕ → Accumulator} {y : ℕ → Pair} (p : Places) (d : List ℕ)
    → AllLoaded m W B p l x → Butterfly m W B (λ b. meant m (x b)) y → d' ≡ spread p y B d → (A 𝐚 : ℕ) → FactorsOf A B 𝐚 p → d' ≡ outer_sums m W A B 𝐚 p l d
unfolding outer_sums
butterfly_stored m {W} {B} p d r b s A 𝐚 f =
    s ∙ puts_ext (λ c. p.base + c * p.gap) _ _ B d (λ c hc. b.sums c hc ∙ ap pair_of (outer_cong (field_ring m) W B _ _ c (λ k hk. (r.each k hk).value_is A B 𝐚 f)))
