-- The line that was found can be turned in a volume of the job, with the job's tables.
use mathlib.Core.Path.{◌≡◌, sym, subst}
use mathlib.Core.Logic.{inl, inr}
use mathlib.Core.List.{List}
use Prim.Native.Nat.{ℕ}
use lib.ListN.{length}
use Rattle.numbers.specs.Value.{prime}
use Rattle.slices.specs.Pairs.{Below}
use Rattle.slices.proofs.Bounds.{small_at}
use Rattle.cell.specs.Volume.{volume_length}
use Rattle.volume_transform.specs.Lines.{Placed, TablesFor, LineBelow}
use Rattle.volume_transform.specs.Plans.{plan_group, plan_halves, Fitting, LineAt}
use Rattle.volume_transform.specs.declared.plan.Plan.{Plan}
use Rattle.volume_transform.specs.declared.plan.Line.{Line}
use Rattle.line.specs.Tables.{TablesOf}
use Rattle.line.proofs.kinds.Tables.{line_tables}

module _ (p : Plan) (j : ℕ) (x : Line) (v re im tan : List ℕ) (f : Fitting p v) (t : TablesOf p.m p.direction re im tan) where
  ready : x.m ≡ p.m → x.direction ≡ p.direction → Placed (volume_length (plan_group p) (plan_halves p)) x → (Placed (length v) x × TablesFor x re im tan) × LineBelow x v
  ready em ed placed = (
    (subst (λ n. Placed n x) (sym f.long) placed, line_tables x.kind (subst (λ d. TablesOf x.m d re im tan) (sym ed) (subst (λ m. TablesOf m p.direction re im tan) (sym em) t))),
    record { each = λ k l. small_at (prime x.m) v _ (subst (λ m. Below (prime m) v) (sym em) f.small) },
  )

  pub line_ready : LineAt p j x → (Placed (length v) x × TablesFor x re im tan) × LineBelow x v
  line_ready (inl g) = ready g.modulus g.direction (inl (g.other, g.placed))
  line_ready (inr r) = ready r.modulus r.direction (inr r.placed)

-- where its line lies, whatever the volume holds
pub line_placed : (p : Plan) (j : ℕ) (x : Line) → LineAt p j x → Placed (volume_length (plan_group p) (plan_halves p)) x
line_placed p j x (inl g) = inl (g.other, g.placed)
line_placed p j x (inr r) = inr r.placed

pub line_directed : (p : Plan) (j : ℕ) (x : Line) → LineAt p j x → x.direction ≡ p.direction
line_directed p j x (inl g) = g.direction
line_directed p j x (inr r) = r.direction
