-- Half a line, which stands for the whole where t and -t are alike: what is counted once or twice of it.
use Rattle.std.specs.Prelude.{Bool, ◌||◌, not, cond, ℕ, eqb}
use Rattle.algebra.specs.ring.Ring.{Ops}

-- once or twice
abbrev pub doubled : {R : Type 0} → Ops R → Bool → R → R
doubled 𝓞 b x = cond b (𝓞.add x x) x

-- an index from 0 to A that is not its own negative, so that it stands for two
abbrev pub between : (A w : ℕ) → Bool
between A w = not (eqb w 0 || eqb w A)
