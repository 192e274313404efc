-- What a built request asks: the fields that went into it come out again. Assumes nothing.
use Rattle.std.specs.Prelude.{Ok, Err}
use mathlib.Core.Path.{◌≡◌, refl, ◌∙◌}
use mathlib.Core.Bool.{Bool, true, false}
use mathlib.Core.List.{List, ◌++◌}
use Prim.Native.Nat.{ℕ, ◌+◌, ◌^◌, ◌≤◌, ◌<◌}
use native.Mathlib.Omega.{arith}
use lib.Dec.{leb, ltb, eqb}
use lib.ListN.{length, get_or}
use Rattle.theory.specs.Logic.{when◌then◌else◌, unless◌answer◌then◌, ◌and◌, ◌or◌, within}
use Rattle.theory.proofs.Tests.{by_cases, inside, within-high, tests}
use Rattle.wire.specs.Le.{le, bytes, number}
use Rattle.wire.proofs.Le.{le_bytes}
use Rattle.protocol.specs.declared.ReadOp.TheVariants.{QueryObject, GetMetadata, GetSelected, GetAll}
use Rattle.protocol.specs.declared.ChangeOp.TheVariants.{Create, Modify, Destroy, SetParts, SetMode}
use Rattle.protocol.specs.declared.Refusal.TheVariants.{BadOpcode, BadField}
use Rattle.protocol.specs.Answers.{mode_of}
use Rattle.protocol.specs.Opcodes.{opcode_rows, opcode_row, supported, fixed_size, names_member, bit, supported_only}
use Rattle.frame.specs.declared.Ask.TheVariants.{UseList, Read, Change}
use Rattle.frame.specs.Frame.{data_at, longest, target_of, kind_at, type_at, headers_at, asked_list, given_list, given_at}
use Rattle.frame.specs.Fields.{id_of, kind_in, metadata_is, object_valid, flags_valid, kind_valid, create_in, modify_in, query_in, destroy_in, metadata_in, get_in, set_in, mode_in, use_in, fields_of}
use Rattle.frame.specs.Ask.{usable, reaches, attended, framed_of, ask_of}
use Rattle.host.specs.declared.Command.{Command}
use Rattle.host.specs.declared.Command.TheVariants as host
use Rattle.host.specs.Request.{sent_of, object_header, before, fixed_of, list_for, request, start_with, request_of, set_parts}
use Rattle.host.proofs.Request.{length-request, opcode-request, group-request, target-request, data-request, append-request, opcode-small, request-long}

-- ---- the frame ----

-- the data of a request
abbrev pub data_for : Command → List ℕ → List ℕ
data_for x list = fixed_of (sent_of x) ++ list_for x list

-- the data of each command computes where a proof says `unfolding laid`
unfoldable pub laid : Unit {0}
unfolding when◌then◌else◌ bytes opcode_rows opcode_row fixed_size sent_of object_header before fixed_of list_for
laid = tt

module _ (x : Command) (list : List ℕ) where
  pub request-is : request_of x list ≡ request (sent_of x).opcode 1 (sent_of x).member (data_for x list)
  unfolding request_of start_with
  request-is = append-request (sent_of x).opcode 1 (sent_of x).member (fixed_of (sent_of x)) (list_for x list)

  pub sent-target : (sent_of x).member < 256 ^ 8 → target_of (request_of x list) ≡ (sent_of x).member
  sent-target h = rw request-is (target-request (sent_of x).opcode 1 (sent_of x).member (data_for x list) h)

  -- steps 3 to 7 see what was sent
  pub asked-frame : (members ids in_use : ℕ) (marked : Bool) → (sent_of x).member < 256 ^ 8 → length (request_of x list) ≤ longest
      → ask_of members ids in_use marked (request_of x list) ≡ framed_of members ids in_use marked 1 (sent_of x).opcode (sent_of x).member (data_for x list)
  unfolding ask_of unless◌answer◌then◌
  asked-frame members ids in_use marked h l =
      let op = (sent_of x).opcode in
      let m = (sent_of x).member in
      let d = data_for x list in
      let n : length (request op 1 m d) ≤ longest = rw (← request-is) l in
      rw (request-is, inside data_at longest (length (request op 1 m d)) (omega (arith, length-request op 1 m d)) n)
      (rw (opcode-request op 1 m d (opcode-small x), group-request op 1 m d (omega arith), target-request op 1 m d h, data-request op 1 m d))

-- the list of a parts get, and that of a parts set
pub headers-given : (m id which : ℕ) (list : List ℕ) → asked_list (request_of (host.Get m id which) list) ≡ list
unfolding request_of start_with request laid
headers-given m id which list = refl

pub parts-given : (m id : ℕ) (list : List ℕ) → given_list (request_of (host.Set m id) list) ≡ list
unfolding request_of start_with request laid
parts-given m id list = refl

-- ---- the fields ----

-- data that start with an object header
module _ (id : ℕ) (rest : List ℕ) (small : id < 256 ^ 4) where
  abbrev d : List ℕ
  d = object_header id ++ rest

  pub id-read : id_of d ≡ id
  unfolding object_header bytes number
  id-read = le_bytes 4 id small

  pub object-read : (ids : ℕ) → object_valid ids d ≡ ltb id ids
  unfolding object_valid object_header number le ◌and◌
  object-read ids = rw id-read

  module _ (ids m : ℕ) (valid : ltb id ids ≡ true) where
    pub create-read : (k : ℕ) → flags_valid d ≡ true → get_or d kind_at 0 ≡ k → leb k 1 ≡ true
        → create_in ids m d ≡ Ok (Change m (Create id (kind_in k)))
    unfolding create_in kind_valid unless◌answer◌then◌ ◌and◌
    create-read k f e l = rw (object-read ids, valid, f, e, l, id-read)

    pub modify-read : (k : ℕ) → flags_valid d ≡ true → get_or d kind_at 0 ≡ k → leb k 1 ≡ true
        → modify_in ids m d ≡ Ok (Change m (Modify id (kind_in k)))
    unfolding modify_in kind_valid unless◌answer◌then◌ ◌and◌
    modify-read k f e l = rw (object-read ids, valid, f, e, l, id-read)

    pub query-read : flags_valid d ≡ true → query_in ids m d ≡ Ok (Read m (QueryObject id))
    unfolding query_in unless◌answer◌then◌ ◌and◌
    query-read f = rw (object-read ids, valid, f, id-read)

    pub destroy-read : destroy_in ids m d ≡ Ok (Change m (Destroy id))
    unfolding destroy_in unless◌answer◌then◌
    destroy-read = rw (object-read ids, valid, id-read)

    pub metadata-read : (t : ℕ) → get_or d type_at 0 ≡ t → leb t 2 ≡ true → metadata_in ids m d ≡ Ok (Read m (GetMetadata id (metadata_is t)))
    unfolding metadata_in unless◌answer◌then◌ ◌and◌
    metadata-read t e l = rw (object-read ids, valid, e, l, id-read)

    -- headers with selected only
    pub get-read : (t : ℕ) (list : List ℕ) → get_or d type_at 0 ≡ t → leb t 1 ≡ true → length d ≡ headers_at + length list
        → eqb t 0 or eqb (length list) 0 ≡ true → get_in ids m d ≡ Ok (Read m (when eqb t 0 then GetSelected id else GetAll id))
    unfolding get_in unless◌answer◌then◌ when◌then◌else◌ ◌and◌ ◌or◌
    get-read t list e b n h =
        rw (object-read ids, valid, e, id-read)
        (by_cases (eqb t 0) (λ z. rw z) (λ z.
        let none : eqb (length list) 0 ≡ true = rw z at h in
        let all : eqb t 1 ≡ true = omega tests in
        let long : leb (length d) headers_at ≡ true = omega tests in
        rw (z, all, long)))

  -- of any id
  pub set-read : (ids m : ℕ) → set_in ids m d ≡ (unless ltb id ids answer Err BadField then Ok (Change m (SetParts id)))
  unfolding set_in
  set-read ids m = rw (object-read ids, id-read)

pub use-read : (mask : ℕ) (d : List ℕ) → le d ≡ mask → supported_only mask ≡ true → use_in d ≡ Ok (UseList mask)
unfolding use_in unless◌answer◌then◌
use-read mask d e h = rw (e, h)

pub mode-read : (m b : ℕ) (d : List ℕ) → get_or d 0 0 ≡ b → leb b 1 ≡ true → mode_in m d ≡ Ok (Change m (SetMode (mode_of b)))
unfolding mode_in unless◌answer◌then◌
mode-read m b d e h = rw (e, h)

-- ---- a parts set to a member of the card that is not marked, in every case ----

module _ (m id : ℕ) (list : List ℕ) where
  pub set_long : length (set_parts m id list) ≡ 32 + length list
  unfolding laid
  set_long = request-long (host.Set m id) list

  pub set-target : m < 256 ^ 8 → target_of (set_parts m id list) ≡ m
  unfolding laid
  set-target = sent-target (host.Set m id) list

  pub set-parts-asked : (members ids in_use : ℕ) → members ≤ 16 → within 1 members m ≡ true → id < 256 ^ 4 → given_at + length list ≤ longest
      → ask_of members ids in_use false (set_parts m id list)
      ≡ (unless bit in_use 0x10 answer Err BadOpcode then unless ltb id ids answer Err BadField then Ok (Change m (SetParts id)))
  unfolding framed_of usable supported reaches attended names_member fields_of within ◌and◌ ◌or◌ unless◌answer◌then◌ laid
  set-parts-asked members ids in_use few here small h =
      asked-frame (host.Set m id) list members ids in_use false (omega (arith, within-high 1 members m here)) (omega (arith, set_long))
      ∙ by_cases (bit in_use 0x10) (λ u. rw (u, here) (set-read id list small ids m)) (λ u. rw u)
