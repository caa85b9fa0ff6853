use Rattle.std.proofs.Common.{◌≡◌, ◌+◌, ◌*◌, get_or, arith}
use Rattle.test_io.proofs.Taking.{number_bytes}
use Rattle.test_io.proofs.number.Goals as goal

pub returns : goal.returns
returns c =
    let s = c.args.c.now in
    let e : c.from_be_bytes.result ≡ (get_or s 0 0 * 256 + get_or s 1 0) * 65536 + (get_or s 2 0 * 256 + get_or s 3 0) = omega (arith, c.from_be_bytes.ensures) in
    rw e (number_bytes s c.told-c c.fits-c)
