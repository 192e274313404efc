-- What the code of finish goes by: the steps of a parts set that can still refuse, on member x and the list given.
-- ../proofs/SetLaws.antt shows that the command does no other. Assumes nothing.
use Rattle.protocol.specs.declared.Refusal.{Refusal}
use Rattle.std.specs.Prelude.{List, ℕ, ◌+◌, ltb, Result, Err}
use Rattle.theory.specs.Logic.{unless◌answer◌then◌}
use Rattle.protocol.specs.declared.Refusal.TheVariants.{BadOpcode, BadField}
use Rattle.protocol.specs.declared.ChangeOp.TheVariants.{SetParts}
use Rattle.protocol.specs.Opcodes.{bit}
use Rattle.member.specs.declared.Member.{Member}
use Rattle.changes.specs.Changes.{change_of}
use Rattle.card.specs.Layout.{setup_of, in_use_of}

unfoldable pub set_into : List ℕ → ℕ → List ℕ → Member → Result Member Refusal
set_into c id list x =
    unless bit (in_use_of c) 0x10 answer Err BadOpcode then  -- 4
    unless ltb id ((setup_of c).gets + (setup_of c).sets) answer Err BadField then  -- 7
    change_of (setup_of c).gets (setup_of c).sets list (SetParts id) x  -- 8 to 10
