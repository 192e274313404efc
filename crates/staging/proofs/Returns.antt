-- Each return of begin, feed, finish and drop that is no refusal of ./Refusals.antt, as the code meets it. Assumes nothing.
use Rattle.changes.specs.Changes.{member_after}
use Rattle.protocol.specs.Answers.{outcome_of}
use Rattle.protocol.specs.declared.Refusal.{Refusal}
use Rattle.std.specs.Prelude.{Result, Ok, Err, ⊤}
use Rattle.staging.specs.declared.RestoreError.{RestoreError}
use Rattle.staging.specs.declared.RestoreError.TheVariants.{Refused}
use mathlib.Core.Path.{◌≡◌, ap, sym, ◌∙◌}
use mathlib.Core.Bool.{true, false}
use mathlib.Core.List.{List}
use Prim.Native.Nat.{ℕ, ◌+◌, ◌-◌, ◌^◌, ◌≤◌, ◌<◌}
use native.Mathlib.Omega.{arith}
use lib.ListN.{length, take, length-take}
use borrow.Author.Tests.{le-leb, lt-leb, eq-eqb, ne_eqb, ltb-true}
use Rattle.theory.specs.Logic.{unless◌answer◌then◌}
use Rattle.theory.specs.Bytes.{put}
use Rattle.protocol.specs.declared.Refusal.TheVariants.{BadLength, Exists}
use Rattle.member.specs.declared.Member.{Member}
use Rattle.member.specs.Record.{holding_size}
use Rattle.member.specs.Member.{with_held}
use Rattle.card.specs.declared.Setup.{Setup}
use Rattle.card.specs.Layout.{card_header_size, HasRecord, setup_of, is_member, member_in, with_member, is_marked, holding_in, with_holding, no_bytes}
use Rattle.card.specs.Sound.{is_sound}
use Rattle.card.proofs.MemberLaws.{holding-with-member}
use Rattle.card.proofs.SoundLaws.{sound-of, sound-long, sound-has, sound-member-in}
use Rattle.host.specs.Request.{set_parts}
use Rattle.reply.specs.Reply.{head_size}
use Rattle.admin.specs.Command.{respond}
use Rattle.staging.specs.Staging.{held_in, held_bytes, with_held_bytes, without_held, answer_number, open_refusal, opened, joined_to, concluded, feed_of, finish_of, drop_of}
use Rattle.staging.specs.SetSteps.{set_into}
use Rattle.staging.proofs.Refusals.{passed, open-passed, open-record}
use Rattle.staging.proofs.SetLaws.{reply_number, set-concludes}
use Rattle.staging.proofs.Places.{holding-long}

-- ---- begin ----

module _ (c : List ℕ) (m : ℕ) (y : Member) (e : y ≡ member_in c m) where
  pub already-open : (y.held ≡ 0 → ⊥) → ◌≡◌ {A = ℕ × List ℕ} (answer_number (Err (Refused Exists)), c) (opened c m)
  unfolding unless◌answer◌then◌
  already-open n = rw (ne_eqb (held_in c m) 0 (λ z. n (ap (λ (x : Member). x.held) e ∙ z)))

  pub now-open : (z : Member) (d : List ℕ) → y.held ≡ 0 → z ≡ with_held y 1 → d ≡ with_member c m z → ◌≡◌ {A = ℕ × List ℕ} (0, d) (opened c m)
  unfolding unless◌answer◌then◌
  now-open z d n p q = rw (eq-eqb (held_in c m) 0 (sym (ap (λ (x : Member). x.held) e) ∙ n), q, p, e)

-- ---- bytes are held ----

pub held-written : (c d e : List ℕ) (m from : ℕ) (y : Member) (x : List ℕ) → d ≡ with_member c m y → e ≡ with_holding d m (put from x (holding_in d m))
    → e ≡ with_holding (with_member c m y) m (put from x (holding_in c m))
held-written c d e m from y x p q = q ∙ rw (p, holding-with-member)

-- ---- feed, finish and drop: a is the refusal, which there is not, y the member ----

over : (n x : ℕ) → 1 ≤ n → n ≤ 1 + holding_size → holding_size - (n - 1) < x → holding_size < n - 1 + x
over n x g f l = omega arith

fits : (n x : ℕ) → n ≤ 1 + holding_size → x ≤ holding_size - (n - 1) → n - 1 + x ≤ holding_size
fits n x f l = omega arith

module _ (c : List ℕ) (m : ℕ) (a : Result ⊤ RestoreError) (r : a ≡ open_refusal c m) (u : ⊤) (z : a ≡ Ok u) (y : Member) (e : y ≡ member_in c m) where
  sound : is_sound c ≡ true
  sound = (passed c m a r u z).sound

  here : is_member c m ≡ true
  here = (passed c m a r u z).member

  free : is_marked c m ≡ false
  free = (passed c m a r u z).unmarked

  pub held-some : 1 ≤ y.held
  held-some = let b : 0 < held_in c m = ltb-true 0 (held_in c m) (passed c m a r u z).begun in rw e (omega arith)

  pub held-few : y.held ≤ 1 + holding_size
  held-few = rw e (sound-member-in c (sound-of c sound) m here).few

  pub held-room : y.held - 1 ≤ holding_size
  held-room = let f = held-few in omega arith

  pub held_fits : (n : ℕ) → n ≤ holding_size - (y.held - 1) → y.held - 1 + n ≤ holding_size
  held_fits n l = fits y.held n held-few l

  module _ (x : List ℕ) where
    pub fed-over : (d : List ℕ) → holding_size - (y.held - 1) < length x
        → d ≡ with_holding (with_member c m (with_held y 0)) m no_bytes
        → ◌≡◌ {A = ℕ × List ℕ} (answer_number (Err (Refused BadLength)), d) (feed_of c m x)
    unfolding feed_of unless◌answer◌then◌ without_held with_held_bytes
    fed-over d l p =
        let n : holding_size < held_in c m - 1 + length x = rw e at (over y.held (length x) held-some held-few l) in
        open-passed c m a r u z _ (joined_to c m x) (rw (lt-leb (held_in c m - 1 + length x) holding_size n, p, e))

    pub fed-in : (w : Member) (d : List ℕ) → length x ≤ holding_size - (y.held - 1) → w ≡ with_held y (y.held + length x)
        → d ≡ with_holding (with_member c m w) m (put (y.held - 1) x (holding_in c m))
        → ◌≡◌ {A = ℕ × List ℕ} (0, d) (feed_of c m x)
    unfolding feed_of unless◌answer◌then◌ with_held_bytes
    fed-in w d l v q =
        let i : held_in c m - 1 + length x ≤ holding_size = rw e at (fits y.held (length x) held-few l) in
        open-passed c m a r u z (0, d) (joined_to c m x)
        (rw (le-leb (held_in c m - 1 + length x) holding_size i, q, v, e))

  -- w is what the parts set comes to
  module _ (id : ℕ) (small : id < 256 ^ 4) (w : Result Member Refusal) (p : w ≡ set_into c id (take (y.held - 1) (holding_in c m)) y) (d : List ℕ) where
    finished : d ≡ with_holding (with_member c m (with_held (member_after (member_in c m) w) 0)) m no_bytes
        → ◌≡◌ {A = ℕ × List ℕ} (reply_number (outcome_of w), d) (finish_of c m id)
    unfolding finish_of
    finished q =
        let n : length (holding_in c m) ≡ holding_size = holding-long c m (open-record c m a r u z) in
        let i : length (held_bytes c m) ≤ holding_size = omega (arith, length-take (held_in c m - 1) (holding_in c m)) in
        open-passed c m a r u z (reply_number (outcome_of w), d) (concluded m (respond c (set_parts m id (held_bytes c m)) head_size))
        (rw (set-concludes c m sound here free id (held_bytes c m) small i, q, p, e))

    pub finished-with : (x : Member) → w ≡ Ok x → d ≡ with_holding (with_member c m (with_held x 0)) m no_bytes
        → ◌≡◌ {A = ℕ × List ℕ} (0, d) (finish_of c m id)
    finished-with x h q =
        ap (λ (k : Result Member Refusal). (reply_number (outcome_of k), d)) (sym h) ∙ finished (rw h q)

    pub finished-refused : (f : Refusal) → w ≡ Err f → d ≡ with_holding (with_member c m (with_held y 0)) m no_bytes
        → ◌≡◌ {A = ℕ × List ℕ} (answer_number (Err (Refused f)), d) (finish_of c m id)
    finished-refused f h q =
        ap (λ (k : Result Member Refusal). (reply_number (outcome_of k), d)) (sym h) ∙ finished (rw (h, ← e) q)

  pub dropped : (d : List ℕ) → d ≡ with_holding (with_member c m (with_held y 0)) m no_bytes → ◌≡◌ {A = ℕ × List ℕ} (0, d) (drop_of c m)
  unfolding drop_of without_held with_held_bytes
  dropped d p = open-passed c m a r u z (0, d) (0, without_held c m) (rw (p, e))

-- ---- what the steps of a parts set need ----

module _ (c : List ℕ) (m : ℕ) (s : is_sound c ≡ true) (h : is_member c m ≡ true) where
  pub set-record : HasRecord c m
  set-record = sound-has c (sound-of c s) m h

pub set-header : (c : List ℕ) → is_sound c ≡ true → card_header_size ≤ length c
set-header c s = sound-long c (sound-of c s)

pub set-ids : (c : List ℕ) → is_sound c ≡ true → (w : Setup) → w ≡ setup_of c → w.gets + w.sets < 256
set-ids c s w q = let n = (sound-of c s).numbers in rw q (omega arith)
