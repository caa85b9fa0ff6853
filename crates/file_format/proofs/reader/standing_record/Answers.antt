-- Five numbers, each as it stands.
use Rattle.file_format.specs.Format.{record_at}
use Rattle.file_format.proofs.reader.standing_record.Goals as goal

pub returns : goal.returns
unfolding record_at
returns c =
    let h = c.two_bytes.ensures.0 in
    let k = c.two_bytes-2.ensures.0 in
    let l = c.two_bytes-3.ensures.0 in
    let x = c.four_bytes.ensures in
    let y = c.four_bytes-2.ensures in
    λ i. record { h = h i; k = k i; l = l i; a = x i; b = y i }
