-- What code reads of a card: its header, a member's record, and whether it is sound. Each law is in the form in which
-- a need asks it. Assumes nothing.
use mathlib.Core.Path.{◌≡◌, refl, sym, ◌∙◌}
use mathlib.Core.Bool.{Bool, true, false, not}
use mathlib.Core.List.{List, ◌++◌}
use Prim.Native.Nat.{ℕ, zero, suc, ◌+◌, ◌*◌, ◌-◌, ◌≤◌, ◌<◌}
use native.Mathlib.Nat.{add-zero}
use native.Mathlib.Omega.{arith}
use borrow.Author.Tests.{not-true, not-false, eqb-true, ne_eqb}
use lib.Dec.{leb, eqb}
use lib.ListN.{length, get_or, replicate}
use Rattle.theory.specs.Logic.{◌and◌}
use Rattle.theory.specs.Bytes.{bytes_at, put}
use Rattle.theory.proofs.Tests.{true-and, false-and}
use Rattle.theory.proofs.Bytes.{length-bytes_at, put_all}
use Rattle.theory.proofs.Ladder.{last_end}
use Rattle.objects.specs.Objects.{objects_size, most_of}
use Rattle.objects.proofs.Counts.{most-window}
use Rattle.member.specs.declared.Member.{Member}
use Rattle.member.specs.Record.{member_size, member_of}
use Rattle.member.specs.Member.{features_size}
use Rattle.member.specs.Sound.{sound_record}
use Rattle.card.specs.declared.Setup.{Setup}
use Rattle.card.specs.Layout.{features_at, card_header_size, member_bytes_at, record_size, card_size, setup_of, is_member, record_at, HasRecord, record_bytes, member_bytes_in, member_in}
use Rattle.setups.specs.Setup.{in_ranges}
use Rattle.card.specs.Sound.{sound_setup, IsMost, sound_for, sound_up_to}
use Rattle.card.proofs.RecordBytesLaws.{bytes-long}
use Rattle.card.proofs.HeaderLaws.{setup-read, members-read, gets-read, sets-read, features-read}
use Rattle.card.proofs.SoundLaws.{numbers-of}

-- ---- the header ----

-- the features were copied into l
pub setup-copied : (c f l : List ℕ) → card_header_size ≤ length c → length l ≡ features_size → f ≡ put 0 (bytes_at features_at features_size c) l
    → record { members = get_or c 0 0; gets = get_or c 1 0; sets = get_or c 2 0; features = f } ≡ setup_of c
setup-copied c f l h n e =
    rw (e, put_all (bytes_at features_at features_size c) l (length-bytes_at features_at features_size c (omega arith) ∙ sym n)) (setup-read c (omega arith))

-- n is the card's first byte
module _ (c : List ℕ) (n : ℕ) (e : n ≡ get_or c 0 0) where
  is-members : n ≡ (setup_of c).members
  is-members = e ∙ members-read c

  -- the last test of a member's number
  pub member-high : (m : ℕ) → 1 ≤ m → leb m n ≡ is_member c m
  member-high m h = rw is-members (last_end 1 (setup_of c).members m h)

  pub length-tested : eqb (length c) (card_header_size + record_size * n) ≡ eqb (length c) (card_size (setup_of c).members)
  length-tested = rw is-members

-- a card without a header is too short
pub length-short : (c : List ℕ) → length c < card_header_size → false ≡ eqb (length c) (card_size (setup_of c).members)
length-short c h = sym (ne_eqb (length c) (card_size (setup_of c).members) (λ e. omega arith))

pub numbers-tested : (c : List ℕ) (n g s : ℕ) (t : Bool) → n ≡ get_or c 0 0 → g ≡ get_or c 1 0 → s ≡ get_or c 2 0
    → t ≡ in_ranges n g s → t ≡ sound_setup (setup_of c)
unfolding sound_setup
numbers-tested c n g s t a b d f = f ∙ rw (a, b, d, members-read c, gets-read c, sets-read c)

-- ---- a member's bytes, from the place of its record ----

module _ (c : List ℕ) (m : ℕ) where
  pub member-lent : (at : ℕ) (r : List ℕ) → at ≡ record_at m → r ≡ bytes_at at member_size c → r ≡ member_bytes_in c m
  unfolding record_bytes
  member-lent at r e q = q ∙ rw (e, add-zero)

  module _ (r : List ℕ) (e : r ≡ member_bytes_in c m) where
    pub lent-long : HasRecord c m → length r ≡ member_size
    lent-long h = rw e (bytes-long c m member_bytes_at member_size h (omega arith))

    pub member-loaded : (x : Member) → x ≡ member_of r → x ≡ member_in c m
    unfolding member_in
    member-loaded x q = q ∙ rw e

-- from any place
module _ (c : List ℕ) (at : ℕ) where
  pub place-tested : (t : Bool) (r : List ℕ) → card_header_size ≤ length c → r ≡ bytes_at at member_size c
      → t ≡ sound_record (get_or c 1 0) (get_or c 2 0) (bytes_at features_at features_size c) r → t ≡ sound_for (setup_of c) (bytes_at at member_size c)
  place-tested t r h e q = q ∙ rw (e, gets-read c, sets-read c, features-read c (omega arith))

-- ---- what the object bytes may be at most ----

module _ (c : List ℕ) where
  module _ (g s : ℕ) (eg : g ≡ get_or c 1 0) (es : s ≡ get_or c 2 0) (h : sound_setup (setup_of c) ≡ true) where
    pub few-ids : g + s ≤ objects_size
    few-ids = let n = numbers-of _ h in rw (eg, es, gets-read c, sets-read c) (omega (arith, n.few_gets, n.few_sets))

    pub window-most : (at : ℕ) (most : List ℕ) → at ≡ objects_size - (g + s)
        → most ≡ bytes_at at objects_size (replicate objects_size 2 ++ replicate objects_size 0) → IsMost (setup_of c) most
    window-most at most e i = rw (← gets-read c, ← sets-read c, ← eg, ← es) (few-ids, i ∙ most-window (g + s) at few-ids e)

  module _ (most : List ℕ) (i : IsMost (setup_of c) most) where
    pub place-ids : get_or c 1 0 + get_or c 2 0 ≤ objects_size
    place-ids = rw (gets-read c, sets-read c) i.0

    pub place-most : most ≡ most_of (get_or c 1 0 + get_or c 2 0)
    place-most = rw (gets-read c, sets-read c) i.1

-- ---- the pass over the members ----

sound-step : (s : Setup) (c : List ℕ) (m : ℕ) → 0 < m → sound_up_to s c m ≡ sound_for s (member_bytes_in c m) and sound_up_to s c (m - 1)
unfolding sound_up_to
sound-step s c zero h = absurd (omega arith)
sound-step s c (suc m) h = let e : suc m - 1 ≡ m = omega arith in rw e

-- members above m are sound, and the record of member m ends at `at`
pub record Checked (c : List ℕ) (m at : ℕ) : Type 0 where
  pub long : length c ≡ card_size (setup_of c).members
  pub high : m ≤ (setup_of c).members
  pub place : at ≡ card_header_size + record_size * m
  pub whole : sound_up_to (setup_of c) c (setup_of c).members ≡ sound_up_to (setup_of c) c m

pub checked-start : (c : List ℕ) (m : ℕ) → length c ≡ card_size (setup_of c).members → m ≡ get_or c 0 0 → Checked c m (length c)
checked-start c m l e = rw (is-members c m e) (record { long = l; high = omega arith; place = l; whole = refl })

module _ (c : List ℕ) (m at : ℕ) (k : Checked c m at) where
  module _ (h : 0 < m) where
    pub step_back : record_size ≤ at
    step_back = let p = k.place in omega arith

    pub step-head : card_header_size ≤ length c
    step-head = let l = k.long in omega arith

    pub step_fits : at - record_size + member_size ≤ length c
    step_fits = let p = k.place in let l = k.long in let b = k.high in omega arith

    module _ (t : Bool) (e : t ≡ sound_for (setup_of c) (bytes_at (at - record_size) member_size c)) where
      is-member : t ≡ sound_for (setup_of c) (member_bytes_in c m)
      unfolding record_bytes
      is-member = let p : at - record_size ≡ record_at m = (let q = k.place in omega arith) in e ∙ rw (p, add-zero)

      pub checked-stop : not t ≡ true → false ≡ sound_up_to (setup_of c) c (setup_of c).members
      checked-stop n = sym (k.whole ∙ sound-step _ c m h ∙ rw (sym is-member ∙ not-true t n) (false-and _))

      pub checked-on : not t ≡ false → Checked c (m - 1) (at - record_size)
      checked-on n = record {
        long = k.long;
        high = let l = k.high in omega arith;
        place = let p = k.place in omega arith;
        whole = k.whole ∙ sound-step _ c m h ∙ rw (sym is-member ∙ not-false t n) (true-and _);
      }

  pub checked-end : m ≤ 0 → true ≡ sound_up_to (setup_of c) c (setup_of c).members
  unfolding sound_up_to
  checked-end h = let e : m ≡ 0 = omega arith in sym (k.whole ∙ rw e)

-- t tested the card's length
module _ (c : List ℕ) (t : Bool) (n : not t ≡ false) (e : t ≡ eqb (length c) (card_size (setup_of c).members)) where
  pub long-as-said : length c ≡ card_size (setup_of c).members
  long-as-said = eqb-true _ _ (sym e ∙ not-false t n)

  pub long-enough : card_header_size ≤ length c
  long-enough = let l = long-as-said in omega arith
