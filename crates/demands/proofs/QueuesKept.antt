-- REQUEST 9: a packed setup makes the card that setup makes, and no call changes a queue count. Assumes nothing.
use Rattle.std.specs.Prelude.{Result, Ok, Err}
use Rattle.protocol.specs.declared.Refusal.{Refusal}
use mathlib.Core.Path.{◌≡◌, refl, ap, ◌∙◌}
use mathlib.Core.Bool.{true}
use mathlib.Core.List.{List}
use Prim.Native.Nat.{ℕ, ◌+◌, ◌-◌, ◌≤◌}
use native.Mathlib.Omega.{arith}
use borrow.Author.Tests.{eqb-true, eq-eqb, eqb-false}
use lib.Dec.{eqb}
use lib.ListN.{length}
use Rattle.theory.specs.Logic.{unless◌answer◌then◌}
use Rattle.theory.proofs.Tests.{by_cases, unless-cases, within_low, within-high}
use Rattle.member.specs.declared.Member.{Member}
use Rattle.member.specs.Record.{holding_size}
use Rattle.member.specs.Member.{features_size, fresh_of}
use Rattle.member.proofs.Record.{fresh-shaped}
use Rattle.changes.proofs.Kept.{change-queues}
use Rattle.setups.specs.Setup.{in_numbers}
use Rattle.setups.specs.Writing.{written}
use Rattle.setups.proofs.Ranges.{numbers-in}
use Rattle.setups.proofs.InRange.{take-sixteen}
use Rattle.setups.proofs.Claims.{claims}
use Rattle.card.specs.Layout.{configuration_at, configuration_size, generation_size, holding_at, setup_of, is_member, HasRecord, member_in, with_member, with_configuration, counts_of, with_holding, with_fresh, fresh_card}
use Rattle.card.proofs.HeaderLaws.{features-long}
use Rattle.card.proofs.RecordLaws.{record-other, member-with-record}
use Rattle.card.proofs.CountLaws.{count-other, count-behind, count-with-use, count-with-member, counts-long, counts-at, count-fresh}
use Rattle.card.proofs.SoundLaws.{Sound, sound-of, sound-long, sound-has, sound-member-in}
use Rattle.protocol.specs.Answers.{EventAnswer}
use Rattle.events.specs.Events.{set_up_of, set_up_from, with_handed_back, hand_back as hand_back_of, wipe as wipe_of, reset_card}
use Rattle.events.proofs.Cases.{on-member-cases}
use Rattle.frame.specs.declared.Ask.{Ask}
use Rattle.frame.specs.declared.Ask.TheVariants.{QueryList, UseList, Read, Change}
use Rattle.admin.specs.Command.{perform, respond}
use Rattle.admin.proofs.Respond.{FactsIn, asked_of, card-cases}
use Rattle.admin.proofs.Marks.{named_here}
use Rattle.staging.proofs.Places.{has}
use Rattle.message.proofs.Cases.{card-cases as message-cases}
use Rattle.demands.specs.Calls.{Call, names, command, hand_back, wipe, card_reset, card_store, restore_begin, restore_feed, restore_finish, restore_drop, message, step}
use Rattle.demands.specs.QueueCounts.{SetUpFromPacked, QueuesKept, CountsInRange}
use Rattle.demands.proofs.Named.{Leaves, unchanged, changed, named-leaves}

-- ---- a packed setup ----

-- a setup that was written is a good one
good-numbers : (buffer : List ℕ) (members : ℕ) (queues : List ℕ) (gets sets : ℕ) (features : List ℕ) (n : ℕ) (b : List ℕ)
    → ◌≡◌ {A = ℕ × List ℕ} (n, b) (written buffer members queues gets sets features) → (n ≡ 0 → ⊥) → in_numbers members queues gets sets ≡ true
unfolding written unless◌answer◌then◌
good-numbers buffer members queues gets sets features n b e h =
    by_cases (in_numbers members queues gets sets) (λ t. t) (λ t. absurd (h (ap (λ (x : ℕ × List ℕ). x.0) (rw t at e))))

pub set-up-from-packed : SetUpFromPacked
unfolding set_up_from set_up_of unless◌answer◌then◌
set-up-from-packed c buffer members queues gets sets features n b e h =
    let w = claims.reads_back buffer members queues gets sets features n b e h in
    let g = numbers-in members queues gets sets (good-numbers buffer members queues gets sets features n b e h) in
    rw (w.same_setup, take-sixteen queues members g.each g.few)

-- ---- queue counts ----

-- member k has as many queues in two cards
abbrev Same : ℕ → List ℕ → List ℕ → Type 0
Same k c d = (member_in d k).queues ≡ (member_in c k).queues

module _ (k : ℕ) (l : 1 ≤ k) where
  -- another member m with the same count, and other bytes behind it
  module _ (c : List ℕ) (m : ℕ) (r : HasRecord c m) where
    member-kept : (x : Member) → x.queues ≡ (member_in c m).queues → Same k c (with_member c m x)
    member-kept x q = count-with-member c m x r q k l

    behind-kept : (x : Member) (y : List ℕ) → x.queues ≡ (member_in c m).queues → Same k c (with_holding (with_member c m x) m y)
    unfolding with_holding
    behind-kept x y q =
        count-behind (with_member c m x) m holding_at holding_size y (omega arith) r.low k l (omega arith) ∙ member-kept x q

    fresh_kept : (f : List ℕ) (g : ℕ) → length f ≡ features_size → Same k c (with_fresh c m f g)
    unfolding fresh_of
    fresh_kept f g e =
        by_cases (eqb k m)
        (λ q. rw (eqb-true k m q) (ap (λ (x : Member). x.queues) (member-with-record c m _ g (fresh-shaped (member_in c m).queues f e) r)))
        (λ q. ap (λ (x : Member). x.queues) (record-other c m _ g k r.low l (eqb-false k m q)))

  configuration-kept : (c : List ℕ) (m : ℕ) → 1 ≤ m → (y : List ℕ) (g : ℕ) → Same k c (with_configuration c m y g)
  unfolding with_configuration
  configuration-kept c m low y g =
      count-behind c m configuration_at (configuration_size + generation_size) _ (omega arith) low k l (omega arith)

  -- a command
  perform_kept : (c r : List ℕ) → Sound c → (a : Result Ask Refusal) → FactsIn c r a → Same k c (perform c r a).card
  unfolding perform
  perform_kept c r s (Err a) f = refl
  perform_kept c r s (Ok QueryList) f = refl
  perform_kept c r s (Ok (UseList mask)) f = count-with-use c mask k
  perform_kept c r s (Ok (Read m op)) f = refl
  perform_kept c r s (Ok (Change m op)) f =
      member-kept c m (sound-has c s m (named_here c r m f.0)) _ (change-queues (setup_of c).gets (setup_of c).sets _ op (member_in c m))

  respond-kept : (c r : List ℕ) (room : ℕ) → Same k c (respond c r room).0
  respond-kept c r room = card-cases c r room (Same k c) refl (λ s. perform_kept c r (sound-of c s) _ (asked_of c r))

-- a call that names m keeps m's count, and touches no other record
leaves_kept : (k m : ℕ) → 1 ≤ k → (c d : List ℕ) → Leaves m c d → Same k c d
leaves_kept k m l c _ unchanged = refl
leaves_kept k m l c _ (changed {d} p h at n x i q) =
    by_cases (eqb k m) (λ e. rw (eqb-true k m e) q.count) (λ e. count-other d m at n x i (within_low _ _ m h) k l (eqb-false k m e))
    ∙ leaves_kept k m l c d p

named-kept : (c : List ℕ) (k : ℕ) → is_member c k ≡ true → (m : ℕ) (x : Call) → names m x ≡ true → Same k c (step c x).0
named-kept c k h m x n = leaves_kept k m (within_low _ _ k h) c _ (named-leaves m c x n)

-- the card after an event
abbrev EventSame : ℕ → List ℕ → EventAnswer × List ℕ → Type 0
EventSame k c y = Same k c y.1

reset-kept : (c : List ℕ) (k g : ℕ) → is_member c k ≡ true → Sound c → Same k c (fresh_card (setup_of c) (counts_of c) g)
unfolding counts_of
reset-kept c k g h s =
    let l = within_low _ _ k h in
    let b = within-high _ _ k h in
    let n = counts-long c 1 (setup_of c).members in
    let i : 1 + (k - 1) ≡ k = omega arith in
    count-fresh (setup_of c) (counts_of c) g (features-long c (omega (arith, sound-long c s))) k l (omega arith)
    ∙ counts-at c 1 (setup_of c).members (k - 1) (omega arith)
    ∙ ap (λ j. (member_in c j).queues) i

pub counts-in-range : CountsInRange
counts-in-range c s m h =
    let q = (sound-member-in c (sound-of c s) m h).count in
    (within_low 1 4 _ q, within-high 1 4 _ q)

pub queues-kept : QueuesKept
unfolding step names hand_back_of with_handed_back wipe_of reset_card
queues-kept c k h (command r room) = respond-kept k (within_low _ _ k h) c r room
queues-kept c k h (hand_back m) =
    on-member-cases c m _ (EventSame k c) (λ a d. refl) λ s i.
    unless-cases (EventSame k c) _ _ _ (λ t. refl) (λ t. behind-kept k (within_low _ _ k h) c m (has c m s i) _ _ refl)
queues-kept c k h (wipe m g) =
    on-member-cases c m _ (EventSame k c) (λ a d. refl) λ s i.
    unless-cases (EventSame k c) _ _ _ (λ t. refl)
    (λ t. fresh_kept k (within_low _ _ k h) c m (has c m s i) _ g (features-long c (omega (arith, sound-long c (sound-of c s)))))
queues-kept c k h (card_reset g) = unless-cases (EventSame k c) _ _ _ (λ t. refl) (λ t. reset-kept c k g h (sound-of c t))
queues-kept c k h (card_store m t s value) = named-kept c k h m (card_store m t s value) (eq-eqb m m refl)
queues-kept c k h (restore_begin m) = named-kept c k h m (restore_begin m) (eq-eqb m m refl)
queues-kept c k h (restore_feed m x) = named-kept c k h m (restore_feed m x) (eq-eqb m m refl)
queues-kept c k h (restore_finish m id) = named-kept c k h m (restore_finish m id) (eq-eqb m m refl)
queues-kept c k h (restore_drop m) = named-kept c k h m (restore_drop m) (eq-eqb m m refl)
queues-kept c k h (message x room) =
    message-cases c x (Same k c) refl room λ m y g s i t.
    configuration-kept k (within_low _ _ k h) c m (within_low _ _ m i) y g
