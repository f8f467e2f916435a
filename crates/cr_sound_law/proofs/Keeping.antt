-- What is so of all that is bound so far, and what keeps it so.
use Rattle.std.specs.Prelude.{◌≡◌, ℕ, ◌+◌, ◌<◌, ◌≤◌, Bool, true, false, if◌then◌else◌, Option, Some, None, List, [], ◌∷◌, ◌++◌, length, map, MatchOption, Contains}
use Rattle.std.specs.List.{list_any}
use Rattle.std.proofs.Common.{sym, ◌∙◌, ap, subst, arith}
use Rattle.std.proofs.lemmas.Option.{slice_get_within}
use Rattle.cr_base.specs.declared.cause.IllCause.TheVariants as cause
use Rattle.cr_scope.specs.declared.Space.{Space}
use Rattle.cr_scope.specs.declared.Space.TheVariants as space
use Rattle.cr_scope.specs.Declarations.{Entry, is_prefix}
use Rattle.cr_scope.specs.Meaning.{IsLookup, SeesNone, LookupMeans}
use Rattle.cr_scope.specs.Redeclaration.{clashes}
use Rattle.cr_binding.specs.Source.{Source, name_at}
use Rattle.cr_binding.specs.State.{Declaration, Record, Member, Use, LookedUp, GoesTo, Selects, IsBuiltIn, IsParameter, WasAsked, State}
use Rattle.cr_binding.specs.Entities.{entry}
use Rattle.cr_binding.specs.Declaring.{failed, used, declare, meaning_here, looked_up}
use Rattle.cr_binding.specs.Tags.{record_of}
use Rattle.cr_sound_law.specs.Sound.{IsToken, IsDenoted, IsSound}
use Rattle.cr_sound_law.proofs.Lists.{all_more, all_and, longer, left_get, mapped_get}
use Rattle.cr_sound_law.proofs.Unique.{Apart}

-- ---- what counts of a state

pub record Kept : Type 0 where
  pub declarations : List Declaration
  pub uses : List Use
  pub records : List Record
  pub members : List Member
  pub hidden : List ℕ
  pub jumps : List ℕ
  pub name : Option ℕ
  pub filled : Option ℕ
  pub last : ℕ

abbrev pub kept : State → Kept
kept s =
    record {
      declarations = s.declarations;
      uses = s.uses;
      records = s.records;
      members = s.members;
      hidden = s.hidden;
      jumps = s.jumps;
      name = s.pending.name;
      filled = s.filled;
      last = s.last;
    }

abbrev pub IfToken : Source → Option ℕ → Type 0
IfToken t None = Unit {0}
IfToken t (Some i) = IsToken t i

-- a record is one of so many
abbrev pub IfRecord : ℕ → Option ℕ → Type 0
IfRecord count None = Unit {0}
IfRecord count (Some r) = r < count

abbrev pub IsTagOf : ℕ → Declaration → Type 0
IsTagOf count d = d.space ≡ space.Tag → IfRecord count (record_of d.type)

abbrev pub IsMemberOf : Source → ℕ → Member → Type 0
IsMemberOf t count m = IsToken t m.token × (m.own < count)

-- before token number i
pub record Sound (t : Source) (i : ℕ) (v : Kept) : Type 0 where
  pub uses : (u : Use) → Contains v.uses u → IsSound t v.declarations u
  pub declared : (d : Declaration) → Contains v.declarations d → IsToken t d.token
  pub tags : (d : Declaration) → Contains v.declarations d → IsTagOf (length v.records) d
  pub members : (m : Member) → Contains v.members m → IsMemberOf t (length v.records) m
  pub records : (r : Record) → Contains v.records r → IsToken t r.token
  pub hidden : (k : ℕ) → Contains v.hidden k → IsToken t k
  pub jumps : (k : ℕ) → Contains v.jumps k → IsToken t k
  pub name : IfToken t v.name
  pub filled : IfRecord (length v.records) v.filled
  pub last : IsToken t v.last
  pub place : 0 < i → v.last < i
  pub unique : Apart t v.members

-- ---- more declarations and records

pub if_more : (a b : ℕ) (r : Option ℕ) → a ≤ b → IfRecord a r → IfRecord b r
if_more a b None w h = tt
if_more a b (Some r) w h = omega (arith, w, h)

denoted_more : (t : Source) (ds more : List Declaration) (sp : Space) (i : ℕ) (path : List ℕ) (before : ℕ) (o : Option ℕ) → IsDenoted t ds sp i path before o → IsDenoted t (ds ++ more) sp i path before o
denoted_more t ds more sp i path before None h =
    let w : length ds ≤ length (ds ++ more) = longer ds more in omega (arith, w, h)
denoted_more t ds more sp i path before (Some c) h = (h.0, h.1, left_get ds more c h.1 h.2, h.3, h.4, h.5)

sound_more : (t : Source) (ds more : List Declaration) (u : Use) → IsSound t ds u → IsSound t (ds ++ more) u
sound_more t ds more (LookedUp sp i path before denoted) h =
    let w : length ds ≤ length (ds ++ more) = longer ds more in
    let l : before ≤ length ds = h.1 in
    (h.0, omega (arith, w, l), denoted_more t ds more sp i path before denoted h.2)
sound_more t ds more (GoesTo i label) h = (h.0, (h.1.0, left_get ds more label h.1.0 h.1.1, h.1.2))
sound_more t ds more (Selects i member) h = h
sound_more t ds more (IsBuiltIn i) h = h
sound_more t ds more (IsParameter i) h = h
sound_more t ds more (WasAsked i path before answer) h =
    let w : length ds ≤ length (ds ++ more) = longer ds more in
    let l : before ≤ length ds = h.1 in
    (h.0, omega (arith, w, l))

-- what a name means in a state
abbrev pub Means : Source → Space → ℕ → State → Option ℕ → Type 0
Means t sp k s None = Unit {0}
Means t sp k s (Some c) = IsDenoted t s.declarations sp k s.present (length s.declarations) (Some c)

module _ (t : Source) (i : ℕ) where
  abbrev pub Stays : State → State → Type 0
  Stays s x = Sound t i (kept s) → Sound t i (kept x)

  pub if_stays : (b : Bool) (s x y : State) → Stays s x → Stays s y → Stays s (if b then x else y)
  if_stays true s x y g h = g
  if_stays false s x y g h = h

  pub used_stays : (u : Use) (s : State) → IsSound t s.declarations u → Stays s (used u s)
  used_stays u s own h =
      record {
        uses = all_and (IsSound t s.declarations) s.uses u h.uses own;
        declared = h.declared;
        tags = h.tags;
        members = h.members;
        records = h.records;
        hidden = h.hidden;
        jumps = h.jumps;
        name = h.name;
        filled = h.filled;
        last = h.last;
        place = h.place;
        unique = h.unique;
      }

  pub added_stays : (d : Declaration) (s : State) → IsToken t d.token → IsTagOf (length s.records) d → Stays s (record s { declarations = s.declarations ++ d ∷ [] })
  added_stays d s own tag h =
      record {
        uses = λ u c. sound_more t s.declarations (d ∷ []) u (h.uses u c);
        declared = all_and (λ d. IsToken t d.token) s.declarations d h.declared own;
        tags = all_and (IsTagOf (length s.records)) s.declarations d h.tags tag;
        members = h.members;
        records = h.records;
        hidden = h.hidden;
        jumps = h.jumps;
        name = h.name;
        filled = h.filled;
        last = h.last;
        place = h.place;
        unique = h.unique;
      }

  pub declare_stays : (d : Declaration) (s : State) → IsToken t d.token → IsTagOf (length s.records) d → Stays s (declare t d s)
  declare_stays d s own tag =
      if_stays (list_any (clashes (entry t d)) (map (entry t) s.declarations)) s (failed cause.Redeclared d.token s) (record s { declarations = s.declarations ++ d ∷ [] }) (λ h. h) (added_stays d s own tag)

  pub recorded_stays : (r : Record) (s : State) → IsToken t r.token → Stays s (record s { records = s.records ++ r ∷ [] })
  recorded_stays r s own h =
      record {
        uses = h.uses;
        declared = h.declared;
        tags = λ d c e. if_more (length s.records) (length (s.records ++ r ∷ [])) (record_of d.type) more (h.tags d c e);
        members = λ m c. ((h.members m c).0, (let l : m.own < length s.records = (h.members m c).1 in omega (arith, l, more)));
        records = all_and (λ r. IsToken t r.token) s.records r h.records own;
        hidden = h.hidden;
        jumps = h.jumps;
        name = h.name;
        filled = if_more (length s.records) (length (s.records ++ r ∷ [])) s.filled more h.filled;
        last = h.last;
        place = h.place;
        unique = h.unique;
      }
    where
      more : length s.records ≤ length (s.records ++ r ∷ [])
      more = longer s.records (r ∷ [])

  pub membered_stays : (more : List Member) (s x : State) → kept x ≡ kept (record s { members = s.members ++ more }) → (Sound t i (kept s) → (m : Member) → Contains more m → IsMemberOf t (length s.records) m) → (Sound t i (kept s) → Apart t (s.members ++ more)) → Stays s x
  membered_stays more s x e own apart h =
      subst (Sound t i) (sym e)
      (record {
        uses = h.uses;
        declared = h.declared;
        tags = h.tags;
        members = all_more (IsMemberOf t (length s.records)) s.members more h.members (own h);
        records = h.records;
        hidden = h.hidden;
        jumps = h.jumps;
        name = h.name;
        filled = h.filled;
        last = h.last;
        place = h.place;
        unique = apart h;
      })

  pub hidden_stays : (k : ℕ) (s : State) → IsToken t k → Stays s (record s { hidden = s.hidden ++ k ∷ [] })
  hidden_stays k s own h =
      record {
        uses = h.uses;
        declared = h.declared;
        tags = h.tags;
        members = h.members;
        records = h.records;
        hidden = all_and (IsToken t) s.hidden k h.hidden own;
        jumps = h.jumps;
        name = h.name;
        filled = h.filled;
        last = h.last;
        place = h.place;
        unique = h.unique;
      }

  pub jumping_stays : (s : State) (js : List ℕ) → ((k : ℕ) → Contains js k → IsToken t k) → Stays s (record s { jumps = js })
  jumping_stays s js own h =
      record {
        uses = h.uses;
        declared = h.declared;
        tags = h.tags;
        members = h.members;
        records = h.records;
        hidden = h.hidden;
        jumps = own;
        name = h.name;
        filled = h.filled;
        last = h.last;
        place = h.place;
        unique = h.unique;
      }

  -- another name and another record
  pub placed_stays : (s x : State) → (name filled : Option ℕ) → kept x ≡ record (kept s) { name = name; filled = filled } → IfToken t name → IfRecord (length s.records) filled → Stays s x
  placed_stays s x name filled e own within h =
      subst (Sound t i) (sym e)
      (record {
        uses = h.uses;
        declared = h.declared;
        tags = h.tags;
        members = h.members;
        records = h.records;
        hidden = h.hidden;
        jumps = h.jumps;
        name = own;
        filled = within;
        last = h.last;
        place = h.place;
        unique = h.unique;
      })

  -- the token at the place is passed
  pub passed_stays : (s : State) → IsToken t i → Sound t i (kept s) → Sound t (i + 1) (kept (record s { last = i }))
  passed_stays s own h =
      record {
        uses = h.uses;
        declared = h.declared;
        tags = h.tags;
        members = h.members;
        records = h.records;
        hidden = h.hidden;
        jumps = h.jumps;
        name = h.name;
        filled = h.filled;
        last = own;
        place = λ w. omega arith;
        unique = h.unique;
      }

  pub looked_stays : (sp : Space) (k c : ℕ) (s : State) → IsToken t k → Means t sp k s (Some c) → Stays s (looked_up sp k (Some c) s)
  looked_stays sp k c s own means =
      used_stays (LookedUp sp k s.present (length s.declarations) (Some c)) s (own, omega arith, means)

pub means_here : LookupMeans → (t : Source) (sp : Space) (k : ℕ) (s : State) → Means t sp k s (meaning_here t sp k s)
means_here law t sp k s = by (meaning_here t sp k s) (law s.present sp (name_at t k) (map (entry t) s.declarations))
  where
    by : (o : Option ℕ) → MatchOption o (SeesNone s.present sp (name_at t k) (map (entry t) s.declarations)) (λ c. (e : Entry) × IsLookup s.present sp (name_at t k) (map (entry t) s.declarations) c e) → Means t sp k s o
    by None h = tt
    by (Some c) h =
        let d = mapped_get (entry t) s.declarations c h.0 h.1.seen.there in
        let seen = h.1.seen in (
          slice_get_within s.declarations c d.0 d.1,
          d.0,
          d.1,
          ap (λ (e : Entry). e.decl.space) d.2 ∙ seen.in_space,
          ap (λ (e : Entry). e.decl.name) d.2 ∙ seen.named,
          subst (λ (e : Entry). is_prefix e.path s.present ≡ true) (sym d.2) seen.visible,
        )
