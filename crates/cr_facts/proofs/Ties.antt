-- Facts that tie in the derived order are equal.
use Rattle.std.proofs.Common.{◌≡◌, List, ℕ, refl, ap, ◌∙◌}
use Rattle.std.specs.declared.cmp.Ordering.{Ordering}
use Rattle.std.specs.declared.cmp.Ordering.TheVariants.{Less, Equal, Greater}
use Rattle.std.specs.Ordering.{nat_cmp, ordering_then}
use Rattle.std.specs.Cmp.{IsTotalOrder}
use Rattle.std.specs.Cmp.Lexicographic.{slice_cmp}
use Rattle.std.specs.FinMap.{nat_cmp-IsAntisymmetric, slice_cmp-IsAntisymmetric}
use Rattle.cr_base.specs.declared.token.Place.{Place}
use Rattle.cr_base.specs.declared.key.TagKind.{TagKind}
use Rattle.cr_base.specs.declared.key.TagKind.TheVariants as tags
use Rattle.cr_base.specs.declared.key.Kind.{Kind}
use Rattle.cr_base.specs.declared.key.Kind.TheVariants as kinds
use Rattle.cr_base.specs.declared.cause.Role.{Role}
use Rattle.cr_base.specs.declared.cause.Role.TheVariants as roles
use Rattle.cr_base.specs.declared.key.RecordKey.{RecordKey}
use Rattle.cr_base.specs.declared.key.RecordKey.TheVariants as records
use Rattle.cr_base.specs.declared.key.Key.{Key}
use Rattle.cr_base.specs.declared.key.Key.TheVariants as keys
use Rattle.cr_base.specs.contracts.token.PlaceOrd.TheImpl as place_ord
use Rattle.cr_base.specs.contracts.key.TagKindOrd.TheImpl as tag_kind_ord
use Rattle.cr_base.specs.contracts.key.KindOrd.TheImpl as kind_ord
use Rattle.cr_base.specs.contracts.cause.RoleOrd.TheImpl as role_ord
use Rattle.cr_base.specs.contracts.key.RecordKeyOrd.TheImpl as record_key_ord
use Rattle.cr_base.specs.contracts.key.KeyOrd.TheImpl as key_ord
use Rattle.cr_facts.specs.declared.fact.Fact.{Fact}
use Rattle.cr_facts.specs.declared.fact.Fact.TheVariants.{Declares, Denotes, OfKind, FileScope, HasRole, MadeDenotes, NewKey, NewMacro, BodyParam, OpaqueAt, Conflict}
use Rattle.cr_facts.specs.contracts.fact.FactOrd.TheImpl.Laws.{total-law}
use Rattle.cr_facts.specs.FactOrder.{fact_cmp}

then_first : (r s : Ordering) → ordering_then r s ≡ Equal → r ≡ Equal
then_first Less s e = cc
then_first Equal s e = refl
then_first Greater s e = cc

then_second : (r s : Ordering) → ordering_then r s ≡ Equal → s ≡ Equal
then_second Less s e = cc
then_second Equal s e = e
then_second Greater s e = cc

abbrev text_cmp : List ℕ → List ℕ → Ordering
text_cmp = slice_cmp nat_cmp

text_same : (x y : List ℕ) → text_cmp x y ≡ Equal → x ≡ y
text_same = slice_cmp-IsAntisymmetric nat_cmp-IsAntisymmetric

abbrev place_cmp : Place → Place → Ordering
place_cmp = (place_ord.ghosts).cmp

abbrev tag_kind_cmp : TagKind → TagKind → Ordering
tag_kind_cmp = (tag_kind_ord.ghosts).cmp

abbrev kind_cmp : Kind → Kind → Ordering
kind_cmp = (kind_ord.ghosts).cmp

abbrev role_cmp : Role → Role → Ordering
role_cmp = (role_ord.ghosts).cmp

abbrev record_key_cmp : RecordKey → RecordKey → Ordering
record_key_cmp = (record_key_ord.ghosts).cmp

abbrev key_cmp : Key → Key → Ordering
key_cmp = (key_ord.ghosts).cmp

place_same : (x y : Place) → place_cmp x y ≡ Equal → x ≡ y
place_same x y e =
    let path : x.path.0 ≡ y.path.0 = nat_cmp-IsAntisymmetric x.path.0 y.path.0 (then_first (nat_cmp x.path.0 y.path.0) (nat_cmp x.offset y.offset) e) in
    let offset : x.offset ≡ y.offset = nat_cmp-IsAntisymmetric x.offset y.offset (then_second (nat_cmp x.path.0 y.path.0) (nat_cmp x.offset y.offset) e) in
    ap {B = Place} (λ (z : ℕ). record { path = record { 0 = z }; offset = x.offset }) path ∙ ap {B = Place} (λ (z : ℕ). record { path = y.path; offset = z }) offset

-- two parts in order
pair_same : {A B C : Type 0} (f : A → B → C) (R : A → A → Ordering) (S : B → B → Ordering) → ((x y : A) → R x y ≡ Equal → x ≡ y) → ((x y : B) → S x y ≡ Equal → x ≡ y)
    → (a c : A) (b d : B) → ordering_then (R a c) (S b d) ≡ Equal → f a b ≡ f c d
pair_same f R S same_a same_b a c b d e =
    ap (λ x. f x b) (same_a a c (then_first (R a c) (S b d) e)) ∙ ap (λ y. f c y) (same_b b d (then_second (R a c) (S b d) e))

tag_kind_same : (x y : TagKind) → tag_kind_cmp x y ≡ Equal → x ≡ y
tag_kind_same tags.Struct tags.Struct e = refl
tag_kind_same tags.Union tags.Union e = refl
tag_kind_same tags.Enum tags.Enum e = refl
tag_kind_same x y e = cc

kind_same : (x y : Kind) → kind_cmp x y ≡ Equal → x ≡ y
kind_same kinds.Function kinds.Function e = refl
kind_same kinds.Object kinds.Object e = refl
kind_same kinds.Typedef kinds.Typedef e = refl
kind_same kinds.Enumerator kinds.Enumerator e = refl
kind_same kinds.Struct kinds.Struct e = refl
kind_same kinds.Union kinds.Union e = refl
kind_same kinds.Enum kinds.Enum e = refl
kind_same kinds.Member kinds.Member e = refl
kind_same kinds.Label kinds.Label e = refl
kind_same x y e = cc

role_same : (x y : Role) → role_cmp x y ≡ Equal → x ≡ y
role_same roles.Final roles.Final e = refl
role_same roles.MacroName roles.MacroName e = refl
role_same roles.Param roles.Param e = refl
role_same roles.Controlling roles.Controlling e = refl
role_same roles.Directive roles.Directive e = refl
role_same roles.Stringized roles.Stringized e = refl
role_same roles.Pasted roles.Pasted e = refl
role_same roles.Opaque roles.Opaque e = refl
role_same roles.Dropped roles.Dropped e = refl
role_same x y e = cc

record_key_same : (x y : RecordKey) → record_key_cmp x y ≡ Equal → x ≡ y
record_key_same (records.Tag k s) (records.Tag l t) e = pair_same records.Tag tag_kind_cmp text_cmp tag_kind_same text_same k l s t e
record_key_same (records.At p) (records.At q) e = ap records.At (place_same p q e)
record_key_same (records.Made u i) (records.Made v j) e = pair_same records.Made nat_cmp nat_cmp nat_cmp-IsAntisymmetric nat_cmp-IsAntisymmetric u v i j e
record_key_same x y e = cc

key_same : (x y : Key) → key_cmp x y ≡ Equal → x ≡ y
key_same (keys.Ext s) (keys.Ext t) e = ap keys.Ext (text_same s t e)
key_same (keys.Tag k s) (keys.Tag l t) e = pair_same keys.Tag tag_kind_cmp text_cmp tag_kind_same text_same k l s t e
key_same (keys.Member r s) (keys.Member q t) e = pair_same keys.Member record_key_cmp text_cmp record_key_same text_same r q s t e
key_same (keys.At p) (keys.At q) e = ap keys.At (place_same p q e)
key_same (keys.Made u i) (keys.Made v j) e = pair_same keys.Made nat_cmp nat_cmp nat_cmp-IsAntisymmetric nat_cmp-IsAntisymmetric u v i j e
key_same x y e = cc

pub fact_same : (x y : Fact) → fact_cmp x y ≡ Equal → x ≡ y
fact_same (Declares k p) (Declares l q) e = pair_same Declares key_cmp place_cmp key_same place_same k l p q e
fact_same (Denotes p k) (Denotes q l) e = pair_same Denotes place_cmp key_cmp place_same key_same p q k l e
fact_same (OfKind k n) (OfKind l m) e = pair_same OfKind key_cmp kind_cmp key_same kind_same k l n m e
fact_same (FileScope k) (FileScope l) e = ap FileScope (key_same k l e)
fact_same (HasRole p r) (HasRole q s) e = pair_same HasRole place_cmp role_cmp place_same role_same p q r s e
fact_same (MadeDenotes k p) (MadeDenotes l q) e = pair_same MadeDenotes key_cmp place_cmp key_same place_same k l p q e
fact_same (NewKey k) (NewKey l) e = ap NewKey (key_same k l e)
fact_same (NewMacro p) (NewMacro q) e = ap NewMacro (place_same p q e)
fact_same (BodyParam p) (BodyParam q) e = ap BodyParam (place_same p q e)
fact_same (OpaqueAt p) (OpaqueAt q) e = ap OpaqueAt (place_same p q e)
fact_same (Conflict k p) (Conflict l q) e = pair_same Conflict key_cmp place_cmp key_same place_same k l p q e
fact_same x y e = cc

pub fact_total : IsTotalOrder fact_cmp
fact_total = total-law
