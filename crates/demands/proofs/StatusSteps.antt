-- Steps 7 to 12 of the status table: at each opcode the definitions and the rows are ladders of the same tests. Assumes
-- nothing.
use mathlib.Core.Path.{◌≡◌, refl, sym, ◌∙◌}
use mathlib.Core.Bool.{Bool, true, false, not}
use mathlib.Core.List.{List, [], ◌∷◌, ◌++◌}
use Prim.Native.Nat.{ℕ, zero, suc, ◌+◌, ◌*◌, ◌≤◌, ◌<◌}
use native.Mathlib.Omega.{arith}
use borrow.Author.Tests.{eqb-true, not-false}
use lib.Dec.{leb, ltb, eqb}
use lib.ListN.{length, get_or, drop, replicate, length-append}
use Rattle.theory.specs.Logic.{when◌then◌else◌, unless◌answer◌then◌, ◌and◌, ◌or◌, within}
use Rattle.theory.proofs.Tests.{by_cases, both, either, true-and, within_low, within-high, tests}
use Rattle.theory.proofs.Sums.{sum_from}
use Rattle.wire.specs.Le.{le, bytes}
use Rattle.protocol.specs.Answers.{Answer}
use Rattle.protocol.specs.declared.Mode.{Mode}
use Rattle.protocol.specs.declared.Mode.TheVariants.{Running, Stopped}
use Rattle.protocol.specs.declared.ObjectKind.{ObjectKind}
use Rattle.protocol.specs.Answers.{is_get, is_set, kind_number, status_of, qualifier_of}
use Rattle.protocol.specs.Opcodes.{supported, names_member, supported_mask, supported_only}
use Rattle.protocol.proofs.Rows.{supported-is}
use Rattle.inventory.specs.Inventory.{values_size, part_count, parts_size}
use Rattle.inventory.proofs.Rules.{table}
use Rattle.rules.specs.Rules.{cause_of, is_accepted, asked_of}
use Rattle.capture.specs.Capture.{Asked, headers_of, parts_written, capture_of}
use Rattle.capture.proofs.Sizes.{parts-length, capture-length, headers-length}
use Rattle.std.specs.Prelude.{Option, Some, None, Ok, is_ok}
use Rattle.member.specs.Objects.{room_in}
use Rattle.member.specs.Member.{features_in}
use Rattle.changes.specs.Changes.{limited, create_of, modify_of, destroy_of, set_parts_of}
use Rattle.reads.specs.Reads.{query_of, through_get, selected_of}
use Rattle.card.specs.Layout.{setup_of, is_member}
use Rattle.card.proofs.SoundLaws.{Sound, sound-member-in}
use Rattle.frame.specs.Frame.{target_of, data_of, asked_list, given_list}
use Rattle.frame.specs.Fields.{object_valid, flags_valid, kind_valid, create_in, modify_in, query_in, destroy_in, metadata_in, get_in, set_in, mode_in, use_in, fields_of}
use Rattle.reply.specs.Result.{number_bytes, result_of}
use Rattle.reply.specs.Reply.{final_of}
use Rattle.reply.proofs.Result.{number-long}
use Rattle.admin.specs.Command.{Effect, perform}
use Rattle.demands.specs.Statuses.{Row, row, first_of, names_object, has_flags, has_kind, type_byte, needs_get, member_named, object_named, member_made, bad_field, bad_list, asked_size, result_size, rows_at}
use Rattle.admin.proofs.Respond.{last_answer}
use Rattle.demands.proofs.StatusFields.{bad-use, bad-create, bad-modify, bad-query, bad-destroy, bad-metadata, bad-selected, bad-all, bad-type, bad-set, bad-mode}

-- ---- what is compared ----

-- status, qualifier and the length of the result: as a command ends, and as the table says
abbrev pub Told : Type 0
Told = ℕ × (ℕ × ℕ)

abbrev pub answered : Answer → List ℕ → Told
answered a x = (status_of a, (qualifier_of a, length (when is_ok a then x else [])))

abbrev pub ends : ℕ → Effect → Told
ends room e = answered (last_answer room e) e.result

abbrev pub says : List Row → ℕ → Told
says xs n = ((first_of xs).0, ((first_of xs).1, when eqb (first_of xs).0 0 then n else 0))

-- steps 7 to 12 at an opcode
abbrev Agree : List ℕ → List ℕ → ℕ → ℕ → Type 0
Agree c r room op =
    ends room (perform c r (fields_of ((setup_of c).gets + (setup_of c).sets) (target_of r) op (data_of r)))
    ≡ says (drop 5 (rows_at c r room op)) (result_size c r op)

-- ---- cases: first where a step stops, then what is below it ----

pub test : {P : Type 0} (t : Bool) → (t ≡ false → P) → (t ≡ true → P) → P
test t f g = by_cases t g f

object : {P : Type 0} (x : Option ObjectKind) → (x ≡ None → P) → ((k : ObjectKind) → x ≡ Some k → P) → P
object None f g = f refl
object (Some k) f g = g k refl

mode : {P : Type 0} (x : Mode) → (x ≡ Running → P) → (x ≡ Stopped → P) → P
mode Running f g = f refl
mode Stopped f g = g refl

-- what holds of n numbers from k on holds of each number that is among them
abbrev Run : (ℕ → Type 0) → ℕ → ℕ → Type 0
Run P k zero = Unit {0}
Run P k (suc n) = P k × Run P (suc k) n

among : (P : ℕ → Type 0) (k n : ℕ) → Run P k n → (x : ℕ) → k ≤ x → x < k + n → P x
among P k zero ps x l h = absurd (omega arith)
among P k (suc n) ps x l h =
    by_cases (eqb x k) (λ e. rw (eqb-true x k e) ps.0) (λ e. among P (suc k) n ps.1 x (omega tests) (omega tests))

type-up-to-1 : {P : Type 0} (b : ℕ) → leb b 1 ≡ true → (b ≡ 0 → P) → (b ≡ 1 → P) → P
type-up-to-1 {P} b l f g = among (λ n. b ≡ n → P) 0 2 (f, (g, tt)) b (omega arith) (omega tests) refl

type-up-to-2 : {P : Type 0} (b : ℕ) → leb b 2 ≡ true → (b ≡ 0 → P) → (b ≡ 1 → P) → (b ≡ 2 → P) → P
type-up-to-2 {P} b l f g h = among (λ n. b ≡ n → P) 0 3 (f, (g, (h, tt))) b (omega arith) (omega tests) refl

-- ---- steps 7 to 12, by the opcode ----

-- the rows and the definitions are ladders of the same tests
unfoldable ladders : Unit {0}
unfolding when◌then◌else◌ unless◌answer◌then◌ ◌and◌ ◌or◌ within bytes
    fields_of create_in modify_in query_in destroy_in metadata_in get_in set_in mode_in use_in
    create_of modify_of destroy_of set_parts_of limited query_of through_get selected_of result_of final_of perform
    first_of has_kind needs_get bad_list result_size rows_at
ladders = tt

-- the length of the parts asked for
asked-length : (queues : ℕ) (list v : List ℕ) → length v ≡ values_size → length (parts_written Asked queues list v) ≡ asked_size queues list
unfolding asked_size table sum_from
asked-length queues list v h = parts-length Asked queues list v h

module _ (c r : List ℕ) (room : ℕ) where
  abbrev d : List ℕ
  d = data_of r

  abbrev q : ℕ
  q = (member_named c r).queues

  abbrev ids : ℕ
  ids = (setup_of c).gets + (setup_of c).sets

  -- step 11, with the result x; and with none
  result : (x : List ℕ) (n : ℕ) → length x ≡ n
      → answered (final_of (Ok tt) (length x) room) x ≡ says (row (not (leb (8 + n) room)) 12 6 ∷ []) n
  unfolding ladders
  result x n p = rw p (test (leb (8 + n) room) (λ e. rw e) λ e. rw (e, p))

  none : answered (final_of (Ok tt) 0 room) [] ≡ says (row (not (leb 8 room)) 12 6 ∷ []) 0
  none = result [] 0 refl

  query-list : Agree c r room 0x00
  unfolding ladders bad_field names_object has_flags
  query-list = result (bytes 8 supported_mask) 8 refl

  list-use : Agree c r room 0x01
  unfolding ladders
  list-use = rw bad-use (test (supported_only (le d)) (λ e. rw e) λ e. rw e none)

  create : Agree c r room 0x0a
  unfolding ladders
  create =
      rw bad-create (test (kind_valid ids d) (λ e. rw e) λ e. rw e (
      object (object_named c r) (λ e. rw e (
      test (room_in (setup_of c).gets (setup_of c).sets (member_made c r)) (λ e. rw e) λ e. rw e none))
      (λ k e. rw e)))

  modify : Agree c r room 0x0b
  unfolding ladders
  modify =
      rw bad-modify (test (kind_valid ids d) (λ e. rw e) λ e. rw e (
      object (object_named c r) (λ e. rw e) λ k e. rw e (
      test (room_in (setup_of c).gets (setup_of c).sets (member_made c r)) (λ e. rw e) λ e. rw e none)))

  query : Agree c r room 0x0c
  unfolding ladders
  query =
      rw bad-query (test (object_valid ids d and flags_valid d) (λ e. rw e) λ e. rw e (
      object (object_named c r) (λ e. rw e) λ k e. rw e (result (kind_number k ∷ replicate 7 0) 8 refl)))

  destroy : Agree c r room 0x0d
  unfolding ladders
  destroy =
      rw bad-destroy (test (object_valid ids d) (λ e. rw e) λ e. rw e (
      object (object_named c r) (λ e. rw e) λ k e. rw e none))

  parts-set : Agree c r room 0x10
  unfolding ladders
  parts-set =
      rw bad-set (test (object_valid ids d) (λ e. rw e) λ e. rw e (
      object (object_named c r) (λ e. rw e) λ k e. rw e (
      test (is_set k) (λ e. rw e) λ e. rw e (
      mode (member_named c r).mode (λ e. rw e) λ e. rw e (
      test (is_accepted (cause_of q (features_in (member_named c r)) (given_list r))) (λ e. rw e) λ e. rw e none)))))

  mode-set : Agree c r room 0x11
  unfolding ladders
  mode-set = rw bad-mode (test (leb (get_or d 0 0) 1) (λ e. rw e) λ e. rw e none)

  -- through a live get object
  through-get : {P : Type 0} → (object_named c r ≡ None → P)
      → ((k : ObjectKind) → object_named c r ≡ Some k → is_get k ≡ false → P)
      → ((k : ObjectKind) → object_named c r ≡ Some k → is_get k ≡ true → P) → P
  through-get f g h = object (object_named c r) f λ k e. test (is_get k) (g k e) (h k e)

  -- the lengths of what metadata and parts get give are those of a sound card
  module _ (few : q < 5) where
    metadata : Agree c r room 0x0e
    unfolding ladders
    metadata =
        rw bad-metadata (test (object_valid ids d and leb (type_byte d) 2) (λ e. rw e) λ v. rw v (
        through-get (λ e. rw e) (λ k e f. rw (e, f)) λ k e f. rw (e, f) (
        type-up-to-2 (type_byte d) (both (object_valid ids d) _ v).1
        (λ e. rw e (result (number_bytes (parts_size q)) 8 (number-long _)))
        (λ e. rw e (result (number_bytes (part_count q)) 8 (number-long _)))
        (λ e. rw e (result (number_bytes (part_count q) ++ headers_of q) (8 + 16 * part_count q)
        (rw (length-append, number-long, headers-length q few)))))))

    -- parts get, by its type: selected, all, and any other
    module _ (long : length (member_named c r).values ≡ values_size) where
      selected : type_byte d ≡ 0 → Agree c r room 0x0f
      unfolding ladders
      selected y =
          rw (bad-selected ids d y, y) (test (object_valid ids d) (λ e. rw e) λ e. rw e (
          through-get (λ e. rw e) (λ k e f. rw (e, f)) λ k e f. rw (e, f) (
          test (asked_of q (asked_list r)) (λ e. rw e) λ e. rw e (
          result (parts_written Asked q (asked_list r) (member_named c r).values) _ (asked-length q (asked_list r) _ long)))))

      get-all : type_byte d ≡ 1 → Agree c r room 0x0f
      unfolding ladders
      get-all y =
          rw (bad-all ids d y, y) (test (object_valid ids d) (λ e. rw e) λ e. rw e (
          test (leb (length d) 16) (λ e. rw e) λ e. rw e (
          through-get (λ e. rw e) (λ k e f. rw (e, f)) λ k e f. rw (e, f) (
          result (capture_of q (member_named c r).values) _ (capture-length q _ few long)))))

      other-type : leb (type_byte d) 1 ≡ false → eqb (type_byte d) 0 ≡ false → eqb (type_byte d) 1 ≡ false → Agree c r room 0x0f
      unfolding ladders
      other-type e f g = rw (bad-type ids d e) (test (object_valid ids d) (λ v. rw v) λ v. rw (v, f, g))

      parts-get : Agree c r room 0x0f
      parts-get =
          test (leb (type_byte d) 1) (λ e. other-type e (omega tests) (omega tests)) λ e.
          type-up-to-1 (type_byte d) e selected get-all

  pub by-opcode : Sound c → (op : ℕ) → supported op ≡ true → names_member op and not (is_member c (target_of r)) ≡ false → Agree c r room op
  unfolding names_member
  by-opcode s op u n =
      either (ltb op 2) (names_member op) (sym (supported-is op) ∙ u)
      (λ e. among (Agree c r room) 0x00 2 (query-list, (list-use, tt)) op (omega arith) (omega tests))
      (λ e.
      let y = sound-member-in c s _ (not-false _ (sym (true-and _) ∙ rw e at n)) in
      let few : q < 5 = omega (arith, within-high 1 4 _ y.count) in
      among (Agree c r room) 0x0a 8
      (create, (modify, (query, (destroy, (metadata few, (parts-get few y.shaped.long, (parts-set, (mode-set, tt)))))))) op
      (within_low _ _ _ e) (omega (tests, within-high _ _ _ e)))
