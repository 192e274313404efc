-- A built request is taken by the card as the command that it is. Assumes nothing.
use Rattle.std.specs.Prelude.{Ok}
use mathlib.Core.Path.{◌≡◌, refl, ◌∙◌}
use mathlib.Core.Bool.{true, not}
use mathlib.Core.List.{List, [], ◌++◌}
use Prim.Native.Nat.{ℕ, ◌+◌, ◌%◌, ◌^◌, ◌≤◌, ◌<◌}
use native.Mathlib.Omega.{arith}
use borrow.Author.Tests.{ltb-true, leb-true, eqb-true}
use lib.Dec.{leb, ltb, eqb}
use lib.ListN.{length, replicate}
use Rattle.theory.specs.Logic.{when◌then◌else◌, unless◌answer◌then◌, ◌and◌, ◌or◌, within}
use Rattle.theory.proofs.Tests.{both, either, and_i, within-high, never}
use Rattle.theory.proofs.Lists.{length-zero}
use Rattle.wire.specs.Le.{le, bytes, number}
use Rattle.wire.proofs.Le.{le_bytes}
use Rattle.protocol.specs.Opcodes.{names_member, supported_only}
use Rattle.protocol.proofs.Masks.{mask_fits}
use Rattle.card.specs.Layout.{setup_of, in_use_of}
use Rattle.card.proofs.SoundLaws.{sound-of}
use Rattle.frame.specs.Fields.{flags_valid, fields_of}
use Rattle.frame.specs.Ask.{usable, reaches, framed_of}
use Rattle.admin.specs.Command.{ask_in}
use Rattle.host.specs.declared.Command.{Command}
use Rattle.host.specs.declared.Command.TheVariants as host
use Rattle.host.specs.Request.{sent_of}
use Rattle.host.proofs.Request.{command-supported}
use Rattle.demands.specs.Host.{ask_for, inside, Taken}
use Rattle.host.proofs.Asked.{data_for, laid, sent-target, asked-frame, headers-given, parts-given, create-read, modify-read, query-read, destroy-read, metadata-read, get-read, set-read, use-read, mode-read}

-- ---- the member ----

-- one that is reached has a small number
reached-small : (members op m : ℕ) → members ≤ 16 → names_member op ≡ true → reaches members op m ≡ true → m < 256 ^ 8
unfolding reaches
reached-small members op m few n r =
    let h : m ≤ members = either (not (names_member op)) (within 1 members m) r (λ e. never cc) (within-high 1 members m) in
    omega arith

member-small : (members : ℕ) (x : Command) → members ≤ 16 → reaches members (sent_of x).opcode (sent_of x).member ≡ true
    → (sent_of x).member < 256 ^ 8
unfolding sent_of names_member within ◌and◌
member-small members host.ListQuery h r = omega arith
member-small members (host.ListUse mask) h r = omega arith
member-small members (host.Create m id kind) h r = reached-small members 0x0a m h refl r
member-small members (host.Modify m id kind) h r = reached-small members 0x0b m h refl r
member-small members (host.Query m id) h r = reached-small members 0x0c m h refl r
member-small members (host.Destroy m id) h r = reached-small members 0x0d m h refl r
member-small members (host.Metadata m id what) h r = reached-small members 0x0e m h refl r
member-small members (host.Get m id which) h r = reached-small members 0x0f m h refl r
member-small members (host.Set m id) h r = reached-small members 0x10 m h refl r
member-small members (host.SetMode m mode) h r = reached-small members 0x11 m h refl r

-- ---- the fields ----

-- a valid id, and a field of one byte, fit their bytes
id-small : (ids id : ℕ) → ids ≤ 16 → ltb id ids ≡ true → id < 256 ^ 4
id-small ids id h v = omega (arith, ltb-true id ids v)

byte_small : (b k : ℕ) → k < 256 → leb b k ≡ true → b % 256 ≡ b
byte_small b k h e = omega (arith, leb-true b k e)

-- what `inside` says of a parts get
record GetFields (ids id which : ℕ) (list : List ℕ) : Type 0 where
  valid : ltb id ids ≡ true
  typed : leb which 1 ≡ true
  alone : eqb which 0 or eqb (length list) 0 ≡ true

get-fields : (ids m id which : ℕ) (list : List ℕ) → inside ids (host.Get m id which) list ≡ true → GetFields ids id which list
unfolding inside
get-fields ids m id which list h =
    let p = both _ _ h in
    let q = both _ _ (both _ _ p.0).0 in
    record { valid = q.0; typed = q.1; alone = p.1 }

mask-read : (mask : ℕ) (list : List ℕ) → supported_only mask ≡ true → list ≡ [] → le (data_for (host.ListUse mask) list) ≡ mask
unfolding laid
mask-read mask list h e = rw e (le_bytes 8 mask (mask_fits mask h))

fields_read : (ids : ℕ) (x : Command) (list : List ℕ) → ids ≤ 16 → inside ids x list ≡ true
    → fields_of ids (sent_of x).member (sent_of x).opcode (data_for x list) ≡ Ok (ask_for x)
unfolding inside fields_of when◌then◌else◌ unless◌answer◌then◌ flags_valid number le laid
fields_read ids host.ListQuery list n h = refl
fields_read ids (host.ListUse mask) list n h =
    let p = both _ _ h in
    use-read mask (data_for (host.ListUse mask) list) (mask-read mask list p.0 (length-zero list (eqb-true _ 0 p.1))) p.0
fields_read ids (host.Create m id kind) list n h =
    let p = both _ _ h in
    create-read id (replicate 8 0 ++ (bytes 8 kind ++ [])) (id-small ids id n p.0) ids m p.0 kind refl (byte_small kind 1 (omega arith) p.1) p.1
fields_read ids (host.Modify m id kind) list n h =
    let p = both _ _ h in
    modify-read id (replicate 8 0 ++ (bytes 8 kind ++ [])) (id-small ids id n p.0) ids m p.0 kind refl (byte_small kind 1 (omega arith) p.1) p.1
fields_read ids (host.Query m id) list n h = query-read id (replicate 8 0) (id-small ids id n h) ids m h refl
fields_read ids (host.Destroy m id) list n h = destroy-read id [] (id-small ids id n h) ids m h
fields_read ids (host.Metadata m id what) list n h =
    let p = both _ _ h in
    metadata-read id (bytes 8 what) (id-small ids id n p.0) ids m p.0 what (byte_small what 2 (omega arith) p.1) p.1
fields_read ids (host.Get m id which) list n h =
    let g = get-fields ids m id which list h in
    get-read id (bytes 8 which ++ list) (id-small ids id n g.valid) ids m g.valid which list
    (byte_small which 1 (omega arith) g.typed) g.typed (omega arith) g.alone
fields_read ids (host.Set m id) list n h = set-read id list (id-small ids id n h) ids m ∙ rw h
fields_read ids (host.SetMode m mode) list n h = mode-read m mode (data_for (host.SetMode m mode) list) (byte_small mode 1 (omega arith) h) h

-- ---- the claim ----

pub taken : Taken
unfolding ask_in framed_of usable unless◌answer◌then◌
taken c x list t =
    let n = (sound-of c t.sound).numbers in
    let ids = (setup_of c).gets + (setup_of c).sets in
    let small = member-small (setup_of c).members x n.few_members t.member in
    record {
      asked =
          asked-frame x list (setup_of c).members ids (in_use_of c) _ small t.short
          ∙ rw (sent-target x list small, and_i _ _ (command-supported x) t.in_use, t.member, t.unmarked)
          (fields_read ids x list (omega arith) t.fields);
      headers = λ m id which e. rw e (headers-given m id which list);
      parts = λ m id e. rw e (parts-given m id list);
    }
