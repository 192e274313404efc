-- DEMAND 2: bytes that are not read are ignored, since no field and no list that is read has one. Assumes nothing.
use Rattle.std.specs.Prelude.{Result, Err}
use Rattle.protocol.specs.declared.Refusal.{Refusal}
use mathlib.Core.Path.{◌≡◌, refl, ap, sym, ◌∙◌}
use mathlib.Core.Bool.{Bool, false, not}
use mathlib.Core.List.{List}
use Prim.Native.Nat.{ℕ, zero, suc, ◌+◌, ◌≤◌, ◌<◌}
use native.Mathlib.Omega.{arith}
use borrow.Author.Tests.{leb-true}
use lib.Dec.{leb, eqb}
use lib.ListN.{length, get_or, drop, length-drop}
use lib.Seq.{drop-drop, ext_get_or, get_or-drop}
use Rattle.theory.specs.Logic.{when◌then◌else◌, unless◌answer◌then◌, ◌and◌, ◌or◌, within}
use Rattle.theory.specs.Bytes.{put}
use Rattle.theory.proofs.Tests.{by_cases, false-and, and-false, or-false, or-true, below, above, outside, tests}
use Rattle.theory.proofs.Bytes.{length-put, bytes_at-after}
use Rattle.wire.specs.Le.{le, number}
use Rattle.wire.proofs.Le.{number-none, number_step, number-byte, number-before}
use Rattle.card.specs.Layout.{setup_of}
use Rattle.protocol.specs.declared.Refusal.TheVariants.{BadLength}
use Rattle.protocol.specs.Opcodes.{names_member}
use Rattle.frame.specs.declared.Ask.{Ask}
use Rattle.frame.specs.Frame.{data_at, longest, group_at, member_at, asked_at, given_at, opcode_of, group_of, target_of, data_of}
use Rattle.frame.specs.Fields.{object_valid, flags_valid, kind_valid, create_in, modify_in, query_in, destroy_in, metadata_in, get_in, set_in, mode_in, use_in, fields_of}
use Rattle.frame.specs.Ask.{reaches, attended, framed_of, ask_of}
use Rattle.admin.specs.Command.{ask_in, respond}
use Rattle.demands.specs.Statuses.{names_object, has_kind, needs_get}
use Rattle.demands.specs.Unread.{is_unread, UnreadIgnored}
use Rattle.demands.proofs.SameAsked.{respond-same}

-- ---- bytes that are not reserved ----

-- whatever the opcode
module _ (op i : ℕ) where
  free : within 4 15 i ≡ false → leb op 0x01 and within 16 23 i ≡ false → within 26 27 i ≡ false → within 41 47 i ≡ false → within 33 39 i ≡ false
      → is_unread op i ≡ false
  unfolding is_unread
  free a m b c d = rw (a, m, b, c, d) (simp (and-false, or-false))

  -- outside of the member field
  no-member : i < 16 → leb op 0x01 and within 16 23 i ≡ false
  no-member h = rw (below 16 23 i h) (and-false _)

  past-member : 24 ≤ i → leb op 0x01 and within 16 23 i ≡ false
  past-member l = rw (above 16 23 i l) (and-false _)

  free-low : i < 4 → is_unread op i ≡ false
  free-low h = free (below 4 15 i h) (no-member (omega arith)) (below 26 27 i (omega arith)) (below 41 47 i (omega arith)) (below 33 39 i (omega arith))

  free-member : leb op 0x01 ≡ false → 16 ≤ i → i < 24 → is_unread op i ≡ false
  free-member o l h =
      free (above 4 15 i (omega arith)) (rw o (false-and _)) (below 26 27 i (omega arith)) (below 41 47 i (omega arith)) (below 33 39 i (omega arith))

  free-type : 24 ≤ i → i < 26 → is_unread op i ≡ false
  free-type l h = free (above 4 15 i (omega arith)) (past-member l) (below 26 27 i h) (below 41 47 i (omega arith)) (below 33 39 i (omega arith))

  free-high : 28 ≤ i → i < 33 → is_unread op i ≡ false
  free-high l h = free (above 4 15 i (omega arith)) (past-member (omega arith)) (above 26 27 i (omega arith)) (below 41 47 i (omega arith)) (below 33 39 i h)

  -- without a type, and without a kind
  free-flags : needs_get op ≡ false → 28 ≤ i → i < 41 → is_unread op i ≡ false
  unfolding is_unread
  free-flags g l h =
      rw (above 4 15 i (omega arith), past-member (omega arith), above 26 27 i (omega arith), below 41 47 i h, g) (simp (false-and, and-false, or-false))

  free-list : has_kind op ≡ false → 40 ≤ i → is_unread op i ≡ false
  unfolding is_unread
  free-list k l =
      rw (above 4 15 i (omega arith), past-member (omega arith), above 26 27 i (omega arith), k, above 33 39 i l) (simp (false-and, and-false, or-false))

  free-parts : has_kind op ≡ false → needs_get op ≡ false → 28 ≤ i → is_unread op i ≡ false
  unfolding is_unread
  free-parts k g l =
      rw (above 4 15 i (omega arith), past-member (omega arith), above 26 27 i (omega arith), k, g) (simp (false-and, and-false, or-false))

  free-mask : names_object op ≡ false → has_kind op ≡ false → needs_get op ≡ false → 24 ≤ i → is_unread op i ≡ false
  unfolding is_unread
  free-mask n k g l = rw (above 4 15 i (omega arith), past-member l, n, k, g) (simp (false-and, or-false))

  free-kind : i ≡ 40 → is_unread op i ≡ false
  free-kind e =
      free (above 4 15 i (omega arith)) (past-member (omega arith)) (above 26 27 i (omega arith)) (below 41 47 i (omega arith)) (above 33 39 i (omega arith))

-- a number of the data
pub data-at : (n at : ℕ) (l : List ℕ) → number at n (data_of l) ≡ number (24 + at) n l
unfolding number
data-at n at l = rw (drop-drop at 24 l)

-- ---- two requests of one length, with the same bytes where none is reserved ----

module _ (r s : List ℕ) (long : length s ≡ length r) (op : ℕ) (same : (i : ℕ) → is_unread op i ≡ false → get_or s i 0 ≡ get_or r i 0) where
  number_same : (n at : ℕ) → ((i : ℕ) → at ≤ i → i < at + n → is_unread op i ≡ false) → number at n s ≡ number at n r
  number_same zero at f = number-none at s ∙ sym (number-none at r)
  number_same (suc n) at f =
      number_step at n s
      ∙ rw (same at (f at (omega arith) (omega arith)), number_same n (at + 1) (λ i l h. f i (omega arith) (omega arith))) (sym (number_step at n r))

  tail-same : (k : ℕ) → ((i : ℕ) → k ≤ i → is_unread op i ≡ false) → drop k s ≡ drop k r
  tail-same k f =
      ext_get_or 0 (drop k s) (drop k r) (rw (length-drop k s, length-drop k r, long)) λ i h.
      get_or-drop k s i 0 ∙ same (k + i) (f (k + i) (omega arith)) ∙ sym (get_or-drop k r i 0)

  -- the fields of the frame
  opcode-same : opcode_of s ≡ opcode_of r
  opcode-same = number_same 2 0 (λ i l h. free-low op i (omega arith))

  group-same : group_of s ≡ group_of r
  group-same = number_same 2 group_at (λ i l h. free-low op i (omega arith))

  -- but for the list commands
  target-same : leb op 0x01 ≡ false → target_of s ≡ target_of r
  target-same o = number_same 8 member_at (λ i l h. free-member op i o l (omega arith))

  -- a number and a byte of the data
  data-same : (n at : ℕ) → ((i : ℕ) → 24 + at ≤ i → i < 24 + at + n → is_unread op i ≡ false) → number at n (data_of s) ≡ number at n (data_of r)
  data-same n at f = data-at n at s ∙ number_same n (24 + at) f ∙ sym (data-at n at r)

  byte-same : (at : ℕ) → is_unread op (24 + at) ≡ false → get_or (data_of s) at 0 ≡ get_or (data_of r) at 0
  byte-same at f = get_or-drop 24 s at 0 ∙ same (24 + at) f ∙ sym (get_or-drop 24 r at 0)

  type-same : number 0 2 (data_of s) ≡ number 0 2 (data_of r)
  type-same = data-same 2 0 (λ i l h. free-type op i (omega arith) (omega arith))

  id_same : number 4 4 (data_of s) ≡ number 4 4 (data_of r)
  id_same = data-same 4 4 (λ i l h. free-high op i (omega arith) (omega arith))

  flags-same : op < 0x0e → number 8 8 (data_of s) ≡ number 8 8 (data_of r)
  unfolding needs_get
  flags-same o = data-same 8 8 (λ i l h. free-flags op i (below 0x0e 0x0f op o) (omega arith) (omega arith))

  kind-same : get_or (data_of s) 16 0 ≡ get_or (data_of r) 16 0
  kind-same = byte-same 16 (free-kind op 40 refl)

  what-same : get_or (data_of s) 8 0 ≡ get_or (data_of r) 8 0
  what-same = byte-same 8 (free-high op 32 (omega arith) (omega arith))

  mode-same : get_or (data_of s) 0 0 ≡ get_or (data_of r) 0 0
  mode-same = byte-same 0 (free-type op 24 (omega arith) (omega arith))

  data-long : length (data_of s) ≡ length (data_of r)
  data-long = rw (length-drop 24 s, length-drop 24 r, long)

  -- the lists
  mask-same : op ≤ 0x01 → data_of s ≡ data_of r
  unfolding names_object has_kind needs_get
  mask-same o = tail-same 24 (λ i l. free-mask op i (below _ _ op (omega arith)) (below _ _ op (omega arith)) (below _ _ op (omega arith)) l)

  asked-same : op ≡ 0x0f → drop asked_at s ≡ drop asked_at r
  unfolding has_kind within ◌and◌
  asked-same o = tail-same asked_at (λ i l. free-list op i (rw o) l)

  given-same : op ≡ 0x10 → drop given_at s ≡ drop given_at r
  unfolding has_kind needs_get within ◌and◌
  given-same o = tail-same given_at (λ i l. free-parts op i (rw o) (rw o) (omega arith))

  -- and so what is asked
  fields-same : (ids m : ℕ) → fields_of ids m op (data_of s) ≡ fields_of ids m op (data_of r)
  unfolding fields_of create_in modify_in query_in destroy_in metadata_in get_in set_in mode_in use_in kind_valid object_valid flags_valid when◌then◌else◌
  fields-same ids m =
      by_cases (eqb op 0x00) (λ t. rw t) λ t. rw t (
      by_cases (eqb op 0x01) (λ t. rw (t, mask-same (omega tests))) λ t. rw t (
      by_cases (eqb op 0x0a) (λ t. let o : op < 0x0e = omega tests in rw (t, type-same, id_same, flags-same o, kind-same)) λ t. rw t (
      by_cases (eqb op 0x0b) (λ t. let o : op < 0x0e = omega tests in rw (t, type-same, id_same, flags-same o, kind-same)) λ t. rw t (
      by_cases (eqb op 0x0c) (λ t. let o : op < 0x0e = omega tests in rw (t, type-same, id_same, flags-same o)) λ t. rw t (
      by_cases (eqb op 0x0d) (λ t. rw (t, type-same, id_same)) λ t. rw t (
      by_cases (eqb op 0x0e) (λ t. rw (t, type-same, id_same, what-same)) λ t. rw t (
      by_cases (eqb op 0x0f) (λ t. rw (t, type-same, id_same, what-same, data-long)) λ t. rw t (
      by_cases (eqb op 0x10) (λ t. rw (t, type-same, id_same)) (λ t. rw (t, mode-same))))))))))

-- a list command asks the same of any member
framed-list : (members ids in_use group op : ℕ) (d : List ℕ) → op ≤ 0x01 → (t t' : Bool) (m m' : ℕ)
    → framed_of members ids in_use t group op m d ≡ framed_of members ids in_use t' group op m' d
unfolding framed_of reaches attended names_member fields_of when◌then◌else◌ ◌or◌
framed-list members ids in_use group op d h t t' m m' =
    rw (below 0x0a 0x11 op (omega arith), or-true (not t), or-true (not t'))
    (by_cases (eqb op 0x00) (λ e. rw e) λ e. rw e (by_cases (eqb op 0x01) (λ f. rw f) (λ f. absurd (omega tests))))

module _ (c r s : List ℕ) (n : length s ≡ length r) (f : (i : ℕ) → is_unread (opcode_of r) i ≡ false → get_or s i 0 ≡ get_or r i 0) where
  asked-of-list : opcode_of r ≤ 0x01 → ask_in c s ≡ ask_in c r
  unfolding ask_in ask_of
  asked-of-list o =
      rw (n, opcode-same r s n (opcode_of r) f, group-same r s n (opcode_of r) f, mask-same r s n (opcode_of r) f o)
      (ap (λ (x : Result Ask Refusal). unless within data_at longest (length r) answer Err BadLength then x) (framed-list _ _ _ _ _ _ o _ _ _ _))

  asked-of-member : leb (opcode_of r) 0x01 ≡ false → ask_in c s ≡ ask_in c r
  unfolding ask_in ask_of framed_of
  asked-of-member o =
      rw (
        n,
        opcode-same r s n (opcode_of r) f,
        group-same r s n (opcode_of r) f,
        target-same r s n (opcode_of r) f o,
        fields-same r s n (opcode_of r) f ((setup_of c).gets + (setup_of c).sets) (target_of r),
      )

pub unread-ignored : UnreadIgnored
unread-ignored c r s room n f =
    respond-same c r s room (asked-same r s n (opcode_of r) f) (given-same r s n (opcode_of r) f)
    (by_cases (leb (opcode_of r) 0x01) (λ t. asked-of-list c r s n f (leb-true _ _ t)) (asked-of-member c r s n f))

-- ---- the hypotheses can be met: any bytes in the reserved field of the frame ----

module _ (r x : List ℕ) (n : length x ≡ 12) where
  outside-frame : (op i : ℕ) → is_unread op i ≡ false → within 4 15 i ≡ false
  unfolding is_unread ◌or◌
  outside-frame op i e = by_cases (within 4 15 i) (λ t. t ∙ rw t at e) (λ t. t)

  other-bytes : (op i : ℕ) → is_unread op i ≡ false → get_or (put 4 x r) i 0 ≡ get_or r i 0
  unfolding number
  other-bytes op i e =
      sym (number-byte i (put 4 x r))
      ∙ outside 4 15 i (outside-frame op i e) (λ h. number-before i 1 4 x r (omega arith)) (λ h. ap le (bytes_at-after i 1 4 x r (omega arith)))
      ∙ number-byte i r

  frame-ignored : (c : List ℕ) (room : ℕ) → respond c (put 4 x r) room ≡ respond c r room
  frame-ignored c room = unread-ignored c r (put 4 x r) room (length-put 4 x r) (other-bytes (opcode_of r))
