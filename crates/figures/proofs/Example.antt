-- Chunks that are fed, which the claim that it does not matter how a stream is cut speaks of. Assumes nothing.
use mathlib.Core.Path.{◌≡◌, refl}
use mathlib.Core.Bool.{true}
use mathlib.Core.List.{List, [], ◌∷◌}
use Prim.Native.Nat.{ℕ}
use native.Mathlib.Omega.{arith}
use lib.ListN.{replicate}
use Rattle.theory.specs.Bytes.{put}
use Rattle.setups.specs.declared.ReadRefusal.TheVariants.{Version2}
use Rattle.tally.specs.Rows.{longest}
use Rattle.figures.specs.State.{waiting, refused, over, Took}
use Rattle.figures.specs.Claims.{Fed, none, next}
use Rattle.figures.proofs.Taking.{setup-more, setup-whole, open-refused}
use Rattle.figures.proofs.HoweverCut.{however-cut}
use Rattle.figures.proofs.Sheets.{model, second}

abbrev pub buffer : List ℕ
buffer = replicate longest 0

-- five bytes of a setup
abbrev some : List ℕ
some = 0x21 ∷ 0x04 ∷ 0x40 ∷ 0x00 ∷ 0 ∷ []

took-some : Took (waiting 0) buffer some (waiting 5) (put 0 some buffer)
took-some = setup-more 0 buffer some (however-cut.starts buffer refl) (put 0 some buffer) (waiting 5) refl refl (omega arith)

-- they are fed, and so the claim says what is written where the stream ends here
fed-some : Fed (waiting 0) buffer (some ∷ []) (waiting 5) (put 0 some buffer)
fed-some = next took-some none

-- a setup of version 2 is fed, and nothing more is taken
took-second : Took (waiting 0) buffer second refused (put 0 second buffer)
unfolding model
took-second =
    setup-whole 0 buffer second (however-cut.starts buffer refl) (omega arith) _ _ refl refl (put 0 second buffer) refl refused
    (put 0 second buffer)
    (open-refused (put 0 second buffer) (0 ∷ []) refl Version2 refused refl refl)

fed-second : Fed (waiting 0) buffer (second ∷ []) refused (put 0 second buffer)
fed-second = next took-second none

no_more : over refused ≡ true
no_more = refl
