-- When setup is done, and what is fresh after it, after a wipe and after a card reset. Assumes nothing.
use mathlib.Core.Path.{◌≡◌, refl, ap, ◌∙◌}
use mathlib.Core.Bool.{true}
use mathlib.Core.List.{List}
use Rattle.std.proofs.Common.{Result, Ok, Err}
use Prim.Native.Nat.{ℕ, ◌+◌, ◌-◌, ◌*◌, ◌<◌}
use native.Mathlib.Omega.{arith}
use borrow.Author.Tests.{eqb-true, eq-eqb}
use lib.Dec.{eqb}
use lib.ListN.{length, get_or, replicate}
use Rattle.std.specs.Prelude.{None}
use Rattle.theory.specs.Logic.{unless◌answer◌then◌, ◌and◌}
use Rattle.theory.proofs.Tests.{by_cases, both, and_i}
use Rattle.theory.proofs.Lists.{get_or-same}
use Rattle.protocol.specs.declared.EventRefusal.TheVariants.{BadSetup}
use Rattle.objects.specs.Objects.{free}
use Rattle.member.specs.declared.Member.{Member}
use Rattle.member.specs.Member.{features_size, fresh_of}
use Rattle.member.specs.Objects.{lookup_of}
use Rattle.member.proofs.Record.{fresh-shaped}
use Rattle.setups.specs.declared.Setup as setups
use Rattle.setups.specs.declared.ReadRefusal.{ReadRefusal}
use Rattle.setups.specs.Setup.{in_numbers}
use Rattle.setups.specs.Reading.{read_number, read_setup}
use Rattle.setups.specs.Accepted.{GoodSetup}
use Rattle.setups.specs.Claims.{counts_read}
use Rattle.setups.proofs.Ranges.{numbers-in}
use Rattle.setups.proofs.Accepted.{numbers-good, good-numbers}
use Rattle.setups.proofs.Claims.{claims}
use Rattle.card.specs.declared.Setup.{Setup}
use Rattle.card.specs.Layout.{record_size, card_size, setup_of, is_member, record_bytes, member_in, counts_of, is_marked, no_configuration, no_bytes, record_of, with_fresh, fresh_card}
use Rattle.card.specs.Sound.{is_sound}
use Rattle.card.proofs.HeaderLaws.{features-long}
use Rattle.card.proofs.FreshLaws.{length-fresh, setup-fresh, use-fresh, record-fresh}
use Rattle.card.proofs.WholeRecordLaws.{whole-member, whole-configuration, whole-generation, whole-holding, record-written}
use Rattle.card.proofs.CountLaws.{counts-long}
use Rattle.card.proofs.SoundLaws.{sound-of, sound-long, sound-has}
use Rattle.events.specs.Events.{setup_with, refused_setup, set_up, set_up_of, set_up_read, set_up_from, numbered, wipe as wipe_of, reset_card}
use Rattle.events.proofs.Cases.{on-sound}
use Rattle.demands.specs.Calls.{wipe, card_reset, answered, step}
use Rattle.demands.specs.Fresh.{FreshMember, FreshCard, SetupDone, SetupFromDone, SetupsDone, ResetsDone}

-- ---- fresh ----

no-object : (q : ℕ) (f : List ℕ) (id : ℕ) → lookup_of (fresh_of q f) id ≡ None
unfolding lookup_of fresh_of
no-object q f id = rw (get_or-same 16 id free)

-- a record that was written with a fresh member
fresh-member : (c : List ℕ) (m q : ℕ) (f : List ℕ) (g : ℕ) → length f ≡ features_size → g < 4294967296
    → record_bytes c m 0 record_size ≡ record_of (fresh_of q f) g → FreshMember c m q f g
unfolding fresh_of no_configuration no_bytes
fresh-member c m q f g l h e =
    let s = fresh-shaped q f l in
    let x = whole-member c m (fresh_of q f) g s e in
    record {
      runs = ap (λ (y : Member). y.mode) x;
      unmarked = ap (λ (y : Member). y.marked) x;
      count = ap (λ (y : Member). y.queues) x;
      no_object = λ id. ap (λ (y : Member). lookup_of y id) x ∙ no-object q f id;
      no_place = ap (λ (y : Member). y.held) x;
      values = ap (λ (y : Member). y.values) x;
      configuration = whole-configuration c m (fresh_of q f) g s e;
      generation_is = whole-generation c m (fresh_of q f) g s e h;
      holding = whole-holding c m (fresh_of q f) g s e;
    }

fresh-card : (s : Setup) (q : List ℕ) (g : ℕ) → length s.features ≡ features_size → length q ≡ s.members → g < 4294967296
    → FreshCard (fresh_card s q g) s.members q s.gets s.sets s.features g
fresh-card s q g l n h = record {
  long = length-fresh s q g l ∙ ap card_size n;
  setup = setup-fresh s q g l;
  in_use = use-fresh s q g l;
  member = λ m low high. fresh-member (fresh_card s q g) m (get_or q (m - 1) 0) s.features g l h
      (record-fresh s q g l m low (omega arith));
}

-- ---- setup ----

module _ (b : List ℕ) (members : ℕ) (q : List ℕ) (gets sets : ℕ) (features : List ℕ) where
  -- the two tests that are not of numbers
  setup-right : GoodSetup members q gets sets features → length b ≡ 27 + 1266 * members
      → in_numbers members q gets sets and eqb (length features) features_size and eqb (length b) (card_size members) ≡ true
  setup-right h l = and_i _ _ (and_i _ _ (good-numbers members q gets sets features h) (eq-eqb _ _ h.long)) (eq-eqb _ _ l)

  setup-done : GoodSetup members q gets sets features → length b ≡ 27 + 1266 * members
      → set_up b members q gets sets features ≡ (Ok tt, fresh_card (setup_with members gets sets features) q 0)
  unfolding set_up unless◌answer◌then◌
  setup-done h l = rw (setup-right h l)

  -- whatever rules out that the tests hold
  setup-refused : (GoodSetup members q gets sets features → length b ≡ 27 + 1266 * members → ⊥)
      → set_up b members q gets sets features ≡ (Err BadSetup, replicate (length b) 0)
  unfolding set_up refused_setup unless◌answer◌then◌
  setup-refused f =
      by_cases (in_numbers members q gets sets and eqb (length features) features_size and eqb (length b) (card_size members))
      (λ t.
      let p = both _ _ t in
      let r = both _ _ p.0 in
      absurd (f (numbers-good members q gets sets features (numbers-in members q gets sets r.0) (eqb-true _ _ r.1))
      (eqb-true _ _ p.1)))
      (λ t. rw t)

  pub setup-is-done : SetupDone b members q gets sets features
  setup-is-done = record {
    done = λ h l.
        let e = setup-done h l in
        rw e (refl, fresh-card (setup_with members gets sets features) q 0 h.long h.each (omega arith));
    bad = λ n. ap numbered (setup-refused (λ h l. n h));
    other_length = λ n. ap numbered (setup-refused (λ h l. n l));
  }

module _ (b l : List ℕ) where
  from-read : (s : setups.Setup) → read_setup l ≡ Ok s
      → set_up_from b l ≡ set_up b s.members (counts_read s) s.gets s.sets s.features
  unfolding set_up_from set_up_of unless◌answer◌then◌
  from-read s e = rw e

  read-good : (s : setups.Setup) → read_setup l ≡ Ok s
      → GoodSetup s.members (counts_read s) s.gets s.sets s.features
  read-good s e =
      let r = claims.in_range l s e in
      numbers-good _ _ _ _ _ (numbers-in _ _ _ _ r.numbers) r.features

  refused-read : (o : Result setups.Setup ReadRefusal) → (read_number o ≡ 0 → ⊥) → set_up_read b o ≡ (Err BadSetup, replicate (length b) 0)
  unfolding refused_setup
  refused-read (Ok s) n = absurd (n refl)
  refused-read (Err r) n = refl

  from-refused : (read_number (read_setup l) ≡ 0 → ⊥) → set_up_from b l ≡ (Err BadSetup, replicate (length b) 0)
  unfolding set_up_from
  from-refused n = refused-read (read_setup l) n

  pub from-is-done : SetupFromDone b l
  from-is-done = record {
    done = λ s e h. rw (from-read s e) ((setup-is-done b _ _ _ _ _).done (read-good s e) h);
    bad = λ n. ap numbered (from-refused n);
    other_length = λ s e n. rw (from-read s e) ((setup-is-done b _ _ _ _ _).other_length n);
  }

pub setups-done : SetupsDone
setups-done = record { given = setup-is-done; packed = from-is-done }

-- ---- resets ----

module _ (c : List ℕ) (g : ℕ) (s : is_sound c ≡ true) (h : g < 4294967296) where
  features-are : length (setup_of c).features ≡ features_size
  features-are = features-long c (omega (arith, sound-long c (sound-of c s)))

  module _ (m : ℕ) (u : is_marked c m ≡ true) where
    marked-member : is_member c m ≡ true
    unfolding is_marked
    marked-member = (both _ _ u).0

    wiped : wipe_of c m g ≡ (Ok tt, with_fresh c m (setup_of c).features g)
    unfolding wipe_of unless◌answer◌then◌
    wiped = rw (on-sound c m _ s, marked-member, u)

    wipe-done : ((step c (wipe m g)).1
        ≡ answered 0) × FreshMember (step c (wipe m g)).0 m (member_in c m).queues (setup_of c).features g
    unfolding step
    wipe-done =
        let x = fresh_of (member_in c m).queues (setup_of c).features in
        let r = record-written c m x g (fresh-shaped _ _ features-are) (sound-has c (sound-of c s) m marked-member) in
        rw wiped (refl, fresh-member _ m _ _ g features-are h r)

  reset-done : ((step c (card_reset g)).1 ≡ answered 0)
      × FreshCard (step c (card_reset g)).0 (setup_of c).members (counts_of c) (setup_of c).gets (setup_of c).sets
      (setup_of c).features g
  unfolding step reset_card counts_of unless◌answer◌then◌
  reset-done = rw s (refl, fresh-card (setup_of c) (counts_of c) g features-are (counts-long c 1 (setup_of c).members) h)

pub resets-done : ResetsDone
resets-done = record {
  wipes = λ c m g s u h. wipe-done c g s h m u;
  resets = λ c g s h. reset-done c g s h;
}
