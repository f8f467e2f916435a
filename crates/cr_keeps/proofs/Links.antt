-- No two keys of the units come together when the entities of a class get a new name.
use Rattle.std.specs.Prelude.{◌≡◌, ℕ, Bool, true, false, ◌&&◌, ◌==◌, cond, if◌then◌else◌, Option, Some, None, List, map, Contains}
use Rattle.std.specs.List.{find}
use Rattle.std.proofs.Common.{refl, sym, ◌∙◌, ap, subst}
use Rattle.std.proofs.lemmas.Bool.{eqb-true}
use Rattle.std.proofs.lemmas.List.Elements.{Contains-append_left, Contains-append_right}
use Rattle.cr_base.specs.declared.token.Name.{Name}
use Rattle.cr_base.specs.declared.token.Place.{Place}
use Rattle.cr_base.specs.declared.token.Origin.{Origin}
use Rattle.cr_base.specs.declared.token.Origin.TheVariants.{At, Made}
use Rattle.cr_base.specs.declared.key.TagKind.{TagKind}
use Rattle.cr_base.specs.declared.key.RecordKey.{RecordKey}
use Rattle.cr_base.specs.declared.key.RecordKey.TheVariants as record_key
use Rattle.cr_base.specs.declared.key.Key.{Key}
use Rattle.cr_base.specs.declared.key.Key.TheVariants as key
use Rattle.cr_base.specs.declared.unit.Unit.{Unit}
use Rattle.cr_snapshot.specs.declared.known.KnownFile.{KnownFile}
use Rattle.cr_macros.specs.Tokens.{Text}
use Rattle.cr_phase4.specs.Search.{world_of}
use Rattle.cr_facts.specs.FactOrder.{Facts}
use Rattle.cr_facts.specs.declared.fact.Fact.TheVariants as fact
use Rattle.cr_scope.specs.declared.Space.TheVariants as space
use Rattle.cr_scope.specs.declared.Linkage.{Linkage}
use Rattle.cr_scope.specs.declared.Linkage.TheVariants as linkage
use Rattle.cr_scope.specs.Declarations.{same_space}
use Rattle.cr_scope.specs.Linkage.{has_linkage, is_file_scope}
use Rattle.cr_binding.specs.Source.{Source, token_of, name_at, text_at}
use Rattle.cr_binding.specs.State.{Declaration, Member, State}
use Rattle.cr_binding.specs.Entities.{is_tag, first_token}
use Rattle.cr_binding.specs.Resolution.{Thing, Declared, InRecord, BuiltIn, own_members, occurrences}
use Rattle.cr_binding.specs.Keys.{key_by, token_key, record_key_by, token_record_key, tag_kind, is_external, is_file_tag, declaration_key, is_tag_of, tag_record_key, record_key_at, record_token, key_of}
use Rattle.cr_binding_law.specs.Renaming.{text_of}
use Rattle.cr_binding_law.specs.ConsistentUnits.{UnitsAreConsistent}
use Rattle.cr_keys_law.specs.KeysMove.{moved_owner, moved_key}
use Rattle.cr_keys_law.specs.Spelled.{IdentifiersAreSpelled}
use Rattle.cr_keys_law.specs.SpelledAlike.{TellsName, KeysTellNames}
use Rattle.cr_keys_law.proofs.Spelled.{found_there}
use Rattle.cr_binding.specs.UnitFacts.{is_shared}
use Rattle.cr_keys_law.proofs.Moving.{IsOfUnit, of_unit, declared_occurs, member_occurs, mapped_there}
use Rattle.cr_class.specs.RenameClass.{Has}
use Rattle.cr_class.specs.Verdict.{is_in_class, renamed_key}
use Rattle.cr_class.specs.declared.class.Class.{Class}
use Rattle.cr_class.specs.declared.target.Target.{Target}
use Rattle.cr_keeps.specs.UnitMeaning.{Tables, number_of, source, binding}
use Rattle.cr_keeps.specs.UnitFacts.{Meanings}
use Rattle.cr_keeps.proofs.Chain.{PlacesHaveOneName, NamesAreIdentifiers}
use Rattle.cr_keeps.specs.AcceptedRenames.{IsAcceptedRename}
use Rattle.cr_class.specs.Accepted.{ClassTestsTell}
use Rattle.cr_binding_law.specs.RenamingKeys.{EntitiesHaveOneKey}
use Rattle.cr_keeps.proofs.LinksStated.{Occurs, IsOrigin, ShiftsApart, KeysMoveApart}
use Rattle.cr_keeps.proofs.Premises.{is_number, text_at_number, told, denoted, spelled_old}

-- a key with this text
abbrev Own : Text → Key → Type 0
Own text (key.Ext a) = a ≡ text
Own text (key.Tag kind a) = a ≡ text
Own text (key.Member owner a) = a ≡ text
Own text (key.At p) = ⊥
Own text (key.Made unit i) = ⊥

own_text : (v : Source) (n : Name) (text : Text) (k : Key) → TellsName v n k → Own text k → text_of v n ≡ text
own_text v n text (key.Ext a) h o = h ∙ o
own_text v n text (key.Tag kind a) h o = h ∙ o
own_text v n text (key.Member owner a) h o = h ∙ o
own_text v n text (key.At p) h o = absurd o
own_text v n text (key.Made unit i) h o = absurd o

module _ (names : Tables) (files : List KnownFile) (units : List Unit) (old new : Text) (target : Target) (facts : Facts) (class : Class) (means : Meanings names (world_of files) units)
    (named : IdentifiersAreSpelled) (tell : KeysTellNames) (one_key : EntitiesHaveOneKey) (tests : ClassTestsTell) (places : PlacesHaveOneName names files) (identifiers : NamesAreIdentifiers names files old)
    (j : IsAcceptedRename names files units old new target facts class means)
    (consistent : UnitsAreConsistent) (shift : Place → Place) (apart : ShiftsApart names files units means shift) where
  abbrev At_units : Key → Type 0
  At_units = Occurs names files units means

  abbrev keys : Key → Bool
  keys = is_in_class class

  inside : (k : Key) → keys k ≡ true → Contains class.keys k
  inside k h = (tests class k).0 h

  -- the text of a key of the class is the old name
  old_of : (k : Key) → At_units k → keys k ≡ true → (text : Text) → Own text k → text ≡ old
  old_of k (u, there, i, x, c, e) h text o =
      let n = spelled_old names files units old new target facts class means named tell one_key tests places identifiers j u there i x c (subst (Contains class.keys) e (inside k h)) in
      let g : text_of (source (means u there)) (name_at (source (means u there)) i) ≡ text = own_text (source (means u there)) (name_at (source (means u there)) i) text k (subst (λ l. TellsName (source (means u there)) (name_at (source (means u there)) i) l) (sym e) (tell u.number (source (means u there)) (means u there).tree i x c)) o in
      sym g ∙ ap (text_of (source (means u there))) n ∙ text_at_number (names u) (j.distinct u) old (j.has_old u)

  shared_own : (text : Text) (k : Key) → Own text k → is_shared k ≡ true
  shared_own text (key.Ext a) o = refl
  shared_own text (key.Tag kind a) o = refl
  shared_own text (key.Member owner a) o = refl
  shared_own text (key.At p) o = absurd o
  shared_own text (key.Made unit i) o = absurd o

  -- a key with the new name is told
  fresh : (k : Key) → At_units k → Own new k → Has facts (fact.NewKey k)
  fresh k (u, there, i, x, c, e) o = by x (of_unit (binding (means u there)) i x c) e
    where
      spelled : (n : ℕ) (y : Thing) → Contains (occurrences (binding (means u there))) (n, y) → k ≡ key_of u.number (source (means u there)) (binding (means u there)) n y → name_at (source (means u there)) n ≡ number_of (names u) new
      spelled n y d f = is_number (names u) (j.distinct u) (name_at (source (means u there)) n) new (j.has_new u) j.may.is (own_text (source (means u there)) (name_at (source (means u there)) n) new k (subst (λ l. TellsName (source (means u there)) (name_at (source (means u there)) n) l) (sym f) (tell u.number (source (means u there)) (means u there).tree n y d)) o)

      by : (y : Thing) → IsOfUnit (binding (means u there)) y → k ≡ key_of u.number (source (means u there)) (binding (means u there)) i y → Has facts (fact.NewKey k)
      by (Declared d) there_d f =
          told names files units old new target facts class means named tell one_key tests places identifiers j u there (fact.NewKey k)
          ((d.token, Declared d), Contains-append_left (map {A = Declaration} (λ d. (d.token, Declared d)) (binding (means u there)).declarations) (map {A = Member} (λ m. (m.token, InRecord m)) (own_members (binding (means u there)))) (d.token, Declared d) (mapped_there {A = Declaration} (λ d. (d.token, Declared d)) (binding (means u there)).declarations d there_d), spelled d.token (Declared d) (declared_occurs (binding (means u there)) d there_d) f, f, shared_own new k o)
      by (InRecord m) there_m f =
          told names files units old new target facts class means named tell one_key tests places identifiers j u there (fact.NewKey k)
          ((m.token, InRecord m), Contains-append_right (map {A = Declaration} (λ d. (d.token, Declared d)) (binding (means u there)).declarations) (map {A = Member} (λ m. (m.token, InRecord m)) (own_members (binding (means u there)))) (m.token, InRecord m) (mapped_there {A = Member} (λ m. (m.token, InRecord m)) (own_members (binding (means u there))) m there_m), spelled m.token (InRecord m) (member_occurs (binding (means u there)) m there_m) f, f, shared_own new k o)
      by BuiltIn it f = absurd (subst (Own new) f o)

  no_clash : (k l : Key) → keys k ≡ true → At_units l → Own new l → l ≡ renamed_key new k → ⊥
  no_clash k l h c o e =
      let k_in = inside k h in
      let d = denoted names files units old new target facts class means named tell one_key tests places identifiers j k k_in in
      j.accepted.no_link d.0 k ((j.of_target.places d.0).1 (k, (j.of_target.keys k).0 k_in, d.1)) k_in (subst (λ z. Has facts (fact.NewKey z)) e (fresh l c o))

  -- keys of one sort, which have their texts
  record IsSort (make : Text → Key) : Type 0 where
    own : (a text : Text) → a ≡ text → Own text (make a)
    renames : (a : Text) → renamed_key new (make a) ≡ make new

  one_text : (make : Text → Key) → IsSort make → (a b : Text) → At_units (make a) → At_units (make b) → cond (keys (make a)) new a ≡ cond (keys (make b)) new b → a ≡ b
  one_text make sort a b ca cb e = by (keys (make a)) (keys (make b)) refl refl e
    where
      by : (x y : Bool) → keys (make a) ≡ x → keys (make b) ≡ y → cond x new a ≡ cond y new b → a ≡ b
      by true true h g e = old_of (make a) ca h a (sort.own a a refl) ∙ sym (old_of (make b) cb g b (sort.own b b refl))
      by false false h g e = e
      by true false h g e = absurd (no_clash (make a) (make b) h cb (sort.own b new (sym e)) (ap make (sym e) ∙ sym (sort.renames a)))
      by false true h g e = absurd (no_clash (make b) (make a) g ca (sort.own a new e) (ap make e ∙ sym (sort.renames b)))

  ext_sort : IsSort key.Ext
  ext_sort = record { own = λ a text e. e; renames = λ a. refl }

  tag_sort : (kind : TagKind) → IsSort (key.Tag kind)
  tag_sort kind = record { own = λ a text e. e; renames = λ a. refl }

  member_sort : (owner : RecordKey) → IsSort (key.Member owner)
  member_sort owner = record { own = λ a text e. e; renames = λ a. refl }

  -- ---- records

  abbrev OwnerOccurs : RecordKey → Type 0
  OwnerOccurs (record_key.Tag kind text) = At_units (key.Tag kind text)
  OwnerOccurs (record_key.At p) = IsOrigin names files units means p
  OwnerOccurs (record_key.Made unit i) = Prim.Unit {0}

  module _ (u : Unit) (there : Contains units u) where
    abbrev tu : Source
    tu = source (means u there)

    abbrev su : State
    su = binding (means u there)

    and_both : (a b : Bool) → (a && b) ≡ true → (a ≡ true) × (b ≡ true)
    and_both true true h = (refl, refl)
    and_both true false h = cc
    and_both false b h = cc

    tag_inside : (d : Declaration) → Contains su.declarations d → is_tag d ≡ true → is_external d.linkage ≡ false
    tag_inside d there_d h = by d.linkage refl
      where
        unlike : space.Ordinary ≡ d.space → ⊥
        unlike e = let no : same_space space.Ordinary space.Tag ≡ true = ap (λ x. same_space x space.Tag) e ∙ h in cc

        by : (l : Linkage) → d.linkage ≡ l → is_external d.linkage ≡ false
        by linkage.None e = ap is_external e
        by linkage.Internal e = ap is_external e
        by linkage.External e = absurd (unlike (sym ((consistent tu (means u there).tree).linked d there_d (ap has_linkage e)).0))

    by_token : (r : ℕ) (o : Origin) → (token_of tu r).origin ≡ o → OwnerOccurs (record_key_by u.number r o)
    by_token r (At p) e = (u, there, r, e)
    by_token r Made e = tt

    owner_occurs : (r : ℕ) → OwnerOccurs (record_key_at u.number tu su r)
    owner_occurs r = by (find (is_tag_of r) su.declarations) refl
      where
        by : (o : Option Declaration) → find (is_tag_of r) su.declarations ≡ o → OwnerOccurs (tag_record_key u.number tu r o)
        by None e = by_token r (token_of tu r).origin refl
        by (Some d) e = at_scope (is_file_scope d.path) refl
          where
            found : Contains su.declarations d × (is_tag_of r d ≡ true)
            found = found_there (is_tag_of r) su.declarations d e

            sort : (is_tag d ≡ true) × ((d.token == r) ≡ true)
            sort = and_both (is_tag d) (d.token == r) found.1

            at_scope : (b : Bool) → is_file_scope d.path ≡ b → OwnerOccurs (if b then record_key.Tag (tag_kind d.kind) (text_at tu r) else token_record_key u.number tu r)
            at_scope false h = by_token r (token_of tu r).origin refl
            at_scope true h =
                let file : is_file_tag d ≡ true = ap (λ b. b && is_file_scope d.path) sort.0 ∙ h in
                let k : declaration_key u.number tu su d ≡ key.Tag (tag_kind d.kind) (text_at tu d.token) = ap (λ b. if b then key.Ext (text_at tu d.token) else (if is_file_tag d then key.Tag (tag_kind d.kind) (text_at tu d.token) else token_key u.number tu (first_token tu su.declarations d))) (tag_inside d found.0 sort.0) ∙ ap (λ b. if b then key.Tag (tag_kind d.kind) (text_at tu d.token) else token_key u.number tu (first_token tu su.declarations d)) file in
                (u, there, d.token, Declared d, declared_occurs su d found.0, ap (λ i. key.Tag (tag_kind d.kind) (text_at tu i)) (sym (eqb-true d.token r sort.1)) ∙ sym k)

    -- the place of a key is one from which a token comes
    place_occurs : (i : ℕ) (x : Thing) (p : Place) → key.At p ≡ key_of u.number tu su i x → IsOrigin names files units means p
    place_occurs i BuiltIn p e = cc
    place_occurs i (InRecord m) p e = cc
    place_occurs i (Declared d) p e = by (is_external d.linkage) (is_file_tag d) e
      where
        at : (o : Origin) → (token_of tu (first_token tu su.declarations d)).origin ≡ o → key.At p ≡ key_by u.number (first_token tu su.declarations d) o → IsOrigin names files units means p
        at Made h e = cc
        at (At q) h e = let same : p ≡ q = cc in (u, there, first_token tu su.declarations d, h ∙ ap At (sym same))

        by : (x f : Bool) → key.At p ≡ (if x then key.Ext (text_at tu d.token) else (if f then key.Tag (tag_kind d.kind) (text_at tu d.token) else token_key u.number tu (first_token tu su.declarations d))) → IsOrigin names files units means p
        by true f e = cc
        by false true e = cc
        by false false e = at (token_of tu (first_token tu su.declarations d)).origin refl e

  member_owner : (owner : RecordKey) (a : Text) → At_units (key.Member owner a) → OwnerOccurs owner
  member_owner owner a (u, there, i, x, c, e) = by x e
    where
      of_declared : (x f : Bool) (d : Declaration) → key.Member owner a ≡ (if x then key.Ext (text_at (source (means u there)) d.token) else (if f then key.Tag (tag_kind d.kind) (text_at (source (means u there)) d.token) else token_key u.number (source (means u there)) (first_token (source (means u there)) (binding (means u there)).declarations d))) → OwnerOccurs owner
      of_declared true f d e = cc
      of_declared false true d e = cc
      of_declared false false d e = at (token_of (source (means u there)) (first_token (source (means u there)) (binding (means u there)).declarations d)).origin e
        where
          at : (o : Origin) → key.Member owner a ≡ key_by u.number (first_token (source (means u there)) (binding (means u there)).declarations d) o → OwnerOccurs owner
          at Made e = cc
          at (At p) e = cc

      by : (y : Thing) → key.Member owner a ≡ key_of u.number (source (means u there)) (binding (means u there)) i y → OwnerOccurs owner
      by (Declared d) e = of_declared (is_external d.linkage) (is_file_tag d) d e
      by (InRecord m) e =
          let same : owner ≡ record_key_at u.number (source (means u there)) (binding (means u there)) (record_token (binding (means u there)) m.own) = cc in
          subst OwnerOccurs (sym same) (owner_occurs u there (record_token (binding (means u there)) m.own))
      by BuiltIn e = cc

  abbrev gone_owner : RecordKey → RecordKey
  gone_owner = moved_owner keys new shift

  one_tag : (kind kind' : TagKind) (a b : Text) → kind ≡ kind' → At_units (key.Tag kind a) → At_units (key.Tag kind' b) → cond (keys (key.Tag kind a)) new a ≡ cond (keys (key.Tag kind' b)) new b → a ≡ b
  one_tag kind kind' a b same ca cb e = one_text (key.Tag kind) (tag_sort kind) a b ca (subst (λ k. At_units (key.Tag k b)) (sym same) cb) (e ∙ ap (λ k. cond (keys (key.Tag k b)) new b) (sym same))

  one_owner : (o q : RecordKey) → OwnerOccurs o → OwnerOccurs q → gone_owner o ≡ gone_owner q → o ≡ q
  one_owner (record_key.Tag kind a) (record_key.Tag kind' b) co cq e =
      let same : kind ≡ kind' = cc in
      let texts : cond (keys (key.Tag kind a)) new a ≡ cond (keys (key.Tag kind' b)) new b = cc in
      ap (λ k. record_key.Tag k a) same ∙ ap (record_key.Tag kind') (one_tag kind kind' a b same co cq texts)
  one_owner (record_key.At p) (record_key.At q) co cq e = let same : shift p ≡ shift q = cc in ap record_key.At (apart p q co cq same)
  one_owner (record_key.Made unit i) (record_key.Made unit' i') co cq e = e
  one_owner (record_key.Tag kind a) (record_key.At q) co cq e = cc
  one_owner (record_key.Tag kind a) (record_key.Made unit' i') co cq e = cc
  one_owner (record_key.At p) (record_key.Tag kind b) co cq e = cc
  one_owner (record_key.At p) (record_key.Made unit' i') co cq e = cc
  one_owner (record_key.Made unit i) (record_key.Tag kind b) co cq e = cc
  one_owner (record_key.Made unit i) (record_key.At q) co cq e = cc

  -- ---- keys

  origin_of_key : (p : Place) → At_units (key.At p) → IsOrigin names files units means p
  origin_of_key p (u, there, i, x, c, e) = place_occurs u there i x p e

  abbrev gone : Key → Key
  gone = moved_key keys new shift

  one_gone : (k l : Key) → At_units k → At_units l → gone k ≡ gone l → k ≡ l
  one_gone (key.Ext a) (key.Ext b) ck cl e = let texts : cond (keys (key.Ext a)) new a ≡ cond (keys (key.Ext b)) new b = cc in ap key.Ext (one_text key.Ext ext_sort a b ck cl texts)
  one_gone (key.Tag kind a) (key.Tag kind' b) ck cl e =
      let same : kind ≡ kind' = cc in
      let texts : cond (keys (key.Tag kind a)) new a ≡ cond (keys (key.Tag kind' b)) new b = cc in
      ap (λ k. key.Tag k a) same ∙ ap (key.Tag kind') (one_tag kind kind' a b same ck cl texts)
  one_gone (key.Member o a) (key.Member q b) ck cl e =
      let owners : gone_owner o ≡ gone_owner q = cc in
      let texts : cond (keys (key.Member o a)) new a ≡ cond (keys (key.Member q b)) new b = cc in
      let same : o ≡ q = one_owner o q (member_owner o a ck) (member_owner q b cl) owners in
      ap (λ z. key.Member z a) same ∙ ap (key.Member q) (one_text (key.Member q) (member_sort q) a b (subst (λ z. At_units (key.Member z a)) same ck) cl (ap (λ z. cond (keys (key.Member z a)) new a) (sym same) ∙ texts))
  one_gone (key.At p) (key.At q) ck cl e = let same : shift p ≡ shift q = cc in ap key.At (apart p q (origin_of_key p ck) (origin_of_key q cl) same)
  one_gone (key.Made unit i) (key.Made unit' i') ck cl e = e
  one_gone (key.Ext a) (key.Tag kind b) ck cl e = cc
  one_gone (key.Ext a) (key.Member q b) ck cl e = cc
  one_gone (key.Ext a) (key.At q) ck cl e = cc
  one_gone (key.Ext a) (key.Made v b) ck cl e = cc
  one_gone (key.Tag kind a) (key.Ext b) ck cl e = cc
  one_gone (key.Tag kind a) (key.Member q b) ck cl e = cc
  one_gone (key.Tag kind a) (key.At q) ck cl e = cc
  one_gone (key.Tag kind a) (key.Made v b) ck cl e = cc
  one_gone (key.Member o a) (key.Ext b) ck cl e = cc
  one_gone (key.Member o a) (key.Tag kind b) ck cl e = cc
  one_gone (key.Member o a) (key.At q) ck cl e = cc
  one_gone (key.Member o a) (key.Made v b) ck cl e = cc
  one_gone (key.At p) (key.Ext b) ck cl e = cc
  one_gone (key.At p) (key.Tag kind b) ck cl e = cc
  one_gone (key.At p) (key.Member q b) ck cl e = cc
  one_gone (key.At p) (key.Made v b) ck cl e = cc
  one_gone (key.Made u i) (key.Ext b) ck cl e = cc
  one_gone (key.Made u i) (key.Tag kind b) ck cl e = cc
  one_gone (key.Made u i) (key.Member q b) ck cl e = cc
  one_gone (key.Made u i) (key.At q) ck cl e = cc

pub keys_move_apart : KeysMoveApart
keys_move_apart named tell one_key consistent tests names files units old new target facts class means places identifiers j shift apart k l ck cl e =
    one_gone names files units old new target facts class means named tell one_key tests places identifiers j consistent shift apart k l ck cl e
