-- Each axis has as many lines as the other two have places.
use native.Mathlib.Omega.{arith}
use Rattle.volume_transform.proofs.plan.JobTurns.{plane_low, layers_width, layers_rows, first_is, second_is, third_is}
use Rattle.volume_transform.proofs.axis_lines.line_counts.Goals as goal

pub overflow_mul-result-3 : goal.overflow_mul-result-3
overflow_mul-result-3 c = omega (arith, plane_low c.requires.sizes, layers_width c.requires.sizes _ c.layer_count-layers.ensures, layers_rows c.requires.sizes _ c.layer_count-layers.ensures)

pub overflow_mul-result : goal.overflow_mul-result
overflow_mul-result c = omega (arith, plane_low c.requires.sizes, layers_width c.requires.sizes _ c.layer_count-layers.ensures, layers_rows c.requires.sizes _ c.layer_count-layers.ensures)

pub overflow_mul-result-2 : goal.overflow_mul-result-2
overflow_mul-result-2 c = omega (arith, plane_low c.requires.sizes, layers_width c.requires.sizes _ c.layer_count-layers.ensures, layers_rows c.requires.sizes _ c.layer_count-layers.ensures)

pub returns : goal.returns
returns c =
    let e = c.layer_count-layers.ensures in
    record {
      l = first_is c.requires.sizes;
      h = second_is c.requires.sizes _ e;
      k = third_is c.requires.sizes _ e;
      low = omega (arith, plane_low c.requires.sizes, layers_width c.requires.sizes _ e, layers_rows c.requires.sizes _ e);
    }
