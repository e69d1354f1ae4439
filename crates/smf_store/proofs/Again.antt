-- A row that shows something says it.
use Rattle.std.proofs.Common.{◌≡◌, ◌≤◌, ℕ, zero, suc, pos, List, [], ◌∷◌, ◌++◌, true, Option, Some, None, Ok, refl, sym, ap, subst, ◌∙◌, arith}
use Rattle.std.specs.Prelude.{IsAscii, IsUtf8, nat_eq, nat_le}
use Rattle.std.specs.Cmp.Lexicographic.{pointwise}
use Rattle.std.proofs.lemmas.Bool.Decides.{nat_tests}
use Rattle.std.proofs.lemmas.Str.{IsUtf8-from_ascii, IsUtf8-from_is_utf8}
use Rattle.sqlite.specs.declared.types.Value.{Value}
use Rattle.sqlite.specs.declared.types.Value.TheVariants.{Int, Text}
use Rattle.sqlite.specs.Order.{Row, column}
use Rattle.smf_fmri.specs.Patterns.{IsInstanceName, IsServiceName, read_short, service_of}
use Rattle.smf_fmri.specs.Name.{short}
use Rattle.smf_fmri.proofs.Patterns.{same_text}
use Rattle.smf_fmri.proofs.Short.{short_again}
use Rattle.smf_state.specs.Texts.{row_text}
use Rattle.smf_value.specs.Body.{bytes_of_groups}
use Rattle.smf_value.proofs.Names.{name_is_utf8}
use Rattle.smf_value.proofs.Wholes.{whole_again}
use Rattle.smf_snap.specs.Body.{decoded_snapshot, spelled_both}
use Rattle.smf_snap.specs.declared.body.SnapshotBody.{SnapshotBody as Kept}
use Rattle.smf_snap.proofs.Bodies.{snapshot_again}
use Rattle.smf_model.specs.declared.held.Instance.{Instance}
use Rattle.smf_model.specs.declared.held.Launch.{Launch}
use Rattle.smf_model.specs.declared.held.Snapshot.{Snapshot}
use Rattle.smf_store.specs.RowValues.{◌>>=◌, bytes_in, greatest, group_said, instance_said, joined_name, launch_said, name_said, number_in, optional_in, service_said, short_service, snapshot_said, state_said, text_in}
use Rattle.smf_store.specs.Shown.{IsSplit, OwnedGroup, ShowsGroup, ShowsInstance, ShowsLaunch, ShowsService, ShowsSnapshot, optional_value}
use Rattle.smf_store.proofs.Spelt.{low_behind, low_name, low_row}
use Rattle.smf_store.proofs.Utf8.{is_text}

-- ---- one column

is_at_most : (a b : ℕ) → a ≤ b → nat_le a b ≡ true
is_at_most a b h = grind (arith, nat_tests)

pub text_again : (v : Value) (t : List ℕ) → v ≡ Text t → IsUtf8 t → text_in v ≡ Some t
text_again v t e utf8 = ap text_in e ∙ is_text t utf8

pub low_again : (v : Value) (t : List ℕ) → v ≡ Text t → IsAscii t → text_in v ≡ Some t
low_again v t e low = text_again v t e (IsUtf8-from_ascii t low)

pub number_again : (v : Value) (n : ℕ) → v ≡ Int (pos n) → n ≤ greatest → number_in v ≡ Some n
number_again v n e low = rw (e, is_at_most n greatest low) refl

-- a number is not past the greatest, if there is a number
abbrev pub IsWithin : Option ℕ → Type 0
IsWithin None = Unit {0}
IsWithin (Some n) = n ≤ greatest

optional_by : (o : Option ℕ) → IsWithin o → optional_in (optional_value o) ≡ Some o
optional_by None low = refl
optional_by (Some n) low = rw (is_at_most n greatest low) refl

optional_again : (v : Value) (o : Option ℕ) → v ≡ optional_value o → IsWithin o → optional_in v ≡ Some o
optional_again v o e low = ap optional_in e ∙ optional_by o low

-- ---- services

pub short_named : (name : List ℕ) → IsServiceName name → short_service name ≡ Some name
unfolding short_service
short_named name h = rw (h.reads, (same_text name name).1 refl, h.names) refl

pub service_again : (name : List ℕ) (r : Row) → IsServiceName name → ShowsService name r → service_said r ≡ Some name
unfolding service_said
service_again name r h shows =
    ap (λ o. o >>= (λ text. short_service text)) (low_again (column r 1) name shows (low_name name h.reads))
    ∙ short_named name h

-- ---- instances

joined_again : (whole front behind : List ℕ) → IsInstanceName whole → IsSplit whole front behind
    → joined_name front behind ≡ Some whole
unfolding joined_name
joined_again whole front behind h split =
    let reads : read_short (front ++ 58 ∷ behind) ≡ Some whole =
    ap read_short (sym split.joined) ∙ short_again whole h in
    let same : pointwise nat_eq (short ++ service_of whole) front ≡ true =
    (same_text (short ++ service_of whole) front).1 (sym split.service) in
    rw (reads, same) refl

front_low : (xs ys : List ℕ) → IsAscii (xs ++ ys) → IsAscii xs
front_low [] ys a i = omega arith
front_low (x ∷ xs) ys a zero = a 0
front_low (x ∷ xs) ys a (suc i) = front_low xs ys (λ k. a (suc k)) i

name_again : (i : Instance) (r : Row) → ShowsInstance i r → IsInstanceName i.name → name_said r ≡ Some i.name
unfolding name_said
name_again i r s h =
    let low : IsAscii (s.service ++ 58 ∷ s.name) = subst IsAscii s.split.joined (low_name i.name h.reads) in
    let front = low_again (column r 2) s.service s.service_is (front_low s.service (58 ∷ s.name) low) in
    let behind = low_again (column r 3) s.name s.name_is
    (low_behind (58 ∷ []) s.name (low_behind s.service (58 ∷ s.name) low)) in
    rw (front, behind) (joined_again i.name s.service s.name h s.split)

state_again : (i : Instance) (r : Row) → ShowsInstance i r → state_said r ≡ Some i.row
unfolding state_said
state_again i r s =
    let text = low_again (column r 4) (row_text i.row) s.row_is (low_row (row_text i.row) i.row s.again) in
    rw (text, s.again) refl

pub instance_again : (i : Instance) (r : Row) → ShowsInstance i r → IsInstanceName i.name → i.number ≤ greatest
    → IsWithin i.start → IsWithin i.previous → instance_said r ≡ Some i
unfolding instance_said
instance_again i r s h low first last =
    let number = number_again (column r 0) i.number s.number_is low in
    let name = name_again i r s h in
    let row = state_again i r s in
    let start = optional_again (column r 5) i.start s.start_is first in
    let previous = optional_again (column r 6) i.previous s.previous_is last in
    rw (number, name, row, start, previous) refl

-- ---- groups

pub group_again : (x : OwnedGroup) (r : Row) → ShowsGroup x r → group_said r ≡ Some x.group
unfolding group_said
group_again x r s =
    let name = text_again (column r 3) x.group.name s.name_is
    (IsUtf8-from_is_utf8 x.group.name (name_is_utf8 x.group.name s.formed.each.0.named.fits)) in
    let body : bytes_in (column r 4) ≡ Some (bytes_of_groups (x.group ∷ [])) = ap bytes_in s.body_is in
    let same : pointwise nat_eq x.group.name x.group.name ≡ true = (same_text x.group.name x.group.name).1 refl in
    rw (name, body, whole_again (x.group ∷ []) s.formed, same) refl

-- ---- snapshots and launches

pub snapshot_says : (s : Snapshot) (r : Row) → ShowsSnapshot s r → s.number ≤ greatest → s.instance ≤ greatest
    → snapshot_said r ≡ Some s
unfolding snapshot_said
snapshot_says s r shows low owner =
    let kept : Kept = record { service = s.service_groups; instance = s.instance_groups } in
    let number = number_again (column r 0) s.number shows.number_is low in
    let of = number_again (column r 2) s.instance shows.instance_is owner in
    let body : bytes_in (column r 3) ≡ Some (spelled_both s.service_groups s.instance_groups) =
    ap bytes_in shows.body_is in
    let reads : decoded_snapshot (spelled_both s.service_groups s.instance_groups) ≡ Ok kept =
    snapshot_again kept (record { service = shows.service; instance = shows.instance }) in
    rw (number, of, body, reads) refl

pub launch_again : (l : Launch) (r : Row) → ShowsLaunch l r → IsInstanceName l.restarter → l.count ≤ greatest
    → launch_said r ≡ Some l
unfolding launch_said
launch_again l r s h low =
    let text = low_again (column r 1) l.restarter s.restarter_is (low_name l.restarter h.reads) in
    let count = number_again (column r 2) l.count s.count_is low in
    rw (text, count, short_again l.restarter h) refl
