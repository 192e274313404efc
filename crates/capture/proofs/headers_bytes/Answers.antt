use native.Mathlib.Omega.{arith}
use Rattle.capture.proofs.Sizes.{headers-length}
use Rattle.capture.proofs.headers_bytes.Goals as goal

pub returns : goal.returns
returns c = omega (arith, headers-length c.args.queues c.requires)
