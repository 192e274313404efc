use mathlib.Core.Path.{◌≡◌, refl}
use Prim.Native.Nat.{◌+◌, ◌-◌}
use native.Mathlib.Omega.{arith}
use lib.ListN.{length}
use Rattle.wire.proofs.Loops.{put_part}
use Rattle.wire.proofs.copy.Goals as goal

pub returns : goal.returns
returns c =
    let e : c.args.at + length c.args.src.now - c.args.at ≡ length c.args.src.now = omega arith in
    rw (e, c.copy_from_slice.ensures.after) (put_part _ _ _ _ refl c.requires)
