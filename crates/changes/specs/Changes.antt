-- The commands that change a member, SPEC 4.4, 4.5, 4.7, 4.10 and 4.11: steps 8 to 10 of SPEC 6.1. Assumes nothing.
use Rattle.std.specs.Prelude.{List, ℕ, None, Some, Result, Ok, Err}
use Rattle.theory.specs.Logic.{unless◌answer◌then◌}
use Rattle.protocol.specs.declared.Refusal.{Refusal}
use Rattle.protocol.specs.declared.Refusal.TheVariants.{Exists, NotLive, NoRoom, WrongKind, Running, BadList}
use Rattle.protocol.specs.declared.ObjectKind.{ObjectKind}
use Rattle.protocol.specs.declared.ChangeOp.{ChangeOp}
use Rattle.protocol.specs.declared.ChangeOp.TheVariants.{Create, Modify, Destroy, SetParts, SetMode}
use Rattle.protocol.specs.Answers.{is_stopped, is_set}
use Rattle.parts.specs.declared.ListForm.TheVariants.{Parts}
use Rattle.parts.specs.List.{parts_of}
use Rattle.rules.specs.Rules.{cause_of, is_accepted}
use Rattle.values.specs.Apply.{applied}
use Rattle.objects.specs.Objects.{on_found}
use Rattle.member.specs.declared.Member.{Member}
use Rattle.member.specs.Objects.{lookup_of, with_object, room_in}
use Rattle.member.specs.Member.{features_in, with_mode, with_values}

-- the member after a change, which a refusal leaves as it was
abbrev pub member_after : Member → Result Member Refusal → Member
member_after m (Ok n) = n
member_after m (Err a) = m

-- step 8c of create and modify: n, the member after it, has at most G get and S set objects
unfoldable pub limited : ℕ → ℕ → Member → Result Member Refusal
limited gets sets n = unless room_in gets sets n answer Err NoRoom then Ok n

-- step 8a: a live id is not created again
unfoldable pub create_of : ℕ → ℕ → ℕ → ObjectKind → Member → Result Member Refusal
create_of gets sets id kind m =
    on_found (lookup_of m id)
    (λ k. Err Exists)
    (limited gets sets (with_object m id (Some kind)))

-- step 8b, here and below: the id is live
unfoldable pub modify_of : ℕ → ℕ → ℕ → ObjectKind → Member → Result Member Refusal
modify_of gets sets id kind m =
    on_found (lookup_of m id)
    (λ k. limited gets sets (with_object m id (Some kind)))
    (Err NotLive)

-- the object is gone: its id can be created again, and no longer counts against G or S
unfoldable pub destroy_of : ℕ → Member → Result Member Refusal
destroy_of id m = on_found (lookup_of m id) (λ k. Ok (with_object m id None)) (Err NotLive)

-- parts set needs a live set object, a stopped member and a list that is good for its queue count (02, request 9), and sets all
-- parts of the list or none
unfoldable pub set_parts_of : ℕ → List ℕ → Member → Result Member Refusal
set_parts_of id list m =
    on_found (lookup_of m id)
    (λ k.
    unless is_set k answer Err WrongKind then  -- 8
    unless is_stopped m.mode answer Err Running then  -- 9
    unless is_accepted (cause_of m.queues (features_in m) list) answer Err BadList then  -- 10
    Ok (with_values m (applied m.queues (parts_of Parts list) m.values)))
    (Err NotLive)

-- by command; a mode set to the mode that the member has succeeds too
abbrev pub change_of : ℕ → ℕ → List ℕ → ChangeOp → Member → Result Member Refusal
change_of gets sets list (Create id kind) m = create_of gets sets id kind m
change_of gets sets list (Modify id kind) m = modify_of gets sets id kind m
change_of gets sets list (Destroy id) m = destroy_of id m
change_of gets sets list (SetParts id) m = set_parts_of id list m
change_of gets sets list (SetMode mode) m = Ok (with_mode m mode)
