-- What a declaring tag use finds is kept.
use Rattle.std.proofs.Common.{◌≡◌, ℕ, zero, suc, ◌⊎◌, inl, inr, Bool, true, false, cond, ◌&&◌, Some, None, List, [], ◌∷◌, ◌++◌, length, refl, sym, ◌∙◌, ap, arith}
use Rattle.std.specs.Prelude.{slice_get}
use Rattle.std.proofs.lemmas.Bool.{eq-eqb}
use Rattle.cr_base.specs.declared.Name.{Name}
use Rattle.cr_scope.specs.declared.Space.TheVariants as space
use Rattle.cr_scope.specs.declared.Decl.{Decl}
use Rattle.cr_scope.specs.Declarations.{Entry, Flat, depth, is_prefix, path_for, declared, entry}
use Rattle.cr_scope.specs.Meaning.{Sees, IsLookup, SeesNone, LookupMeans}
use Rattle.cr_capture.specs.declared.Mention.TheVariants as mention
use Rattle.cr_capture.specs.Renaming.{Class, renamed, all_renamed, name_after, IsRenaming, IsFree, KeepsNewTag}
use Rattle.cr_capture.proofs.Renamed.{numbered, from_renamed, lookup_one, lookup_none, none_seen}

pub at_front : (es : List Entry) (e : Entry) (i : ℕ) (g : Entry) → slice_get es i ≡ Some g → slice_get (es ++ e ∷ []) i ≡ Some g
at_front [] e i g h = cc
at_front (a ∷ es) e zero g h = h
at_front (a ∷ es) e (suc i) g h = at_front es e i g h

pub at_end : (es : List Entry) (e : Entry) → slice_get (es ++ e ∷ []) (length es) ≡ Some e
at_end [] e = refl
at_end (a ∷ es) e = at_end es e

-- what stands in a list with one more: it, or what stood there
pub front_or_end : (es : List Entry) (e : Entry) (i : ℕ) (g : Entry) → slice_get (es ++ e ∷ []) i ≡ Some g → (slice_get es i ≡ Some g) ⊎ ((i ≡ length es) × (e ≡ g))
front_or_end [] e zero g h = inr (refl, cc)
front_or_end [] e (suc i) g h = cc
front_or_end (a ∷ es) e zero g h = inl h
front_or_end (a ∷ es) e (suc i) g h =
    elim (front_or_end es e i g h) [ inl k ↦ inl k | inr k ↦ inr (let q : i ≡ length es = k.0 in ap suc q, k.1) ]

pub own_prefix : (p : List ℕ) → is_prefix p p ≡ true
own_prefix [] = refl
own_prefix (a ∷ p) = ap (λ z. z && is_prefix p p) (eq-eqb a a refl) ∙ own_prefix p

module _ (class : Class) (old new : Name) (f : Flat) (x : Decl) (of : IsRenaming class old new (declared f x).entries) (free : IsFree class (declared f x) old new (mention.Named space.Tag x.name x.token None)) (tag : x.space ≡ space.Tag) (means : LookupMeans) (none : SeesNone f.present space.Tag x.name f.entries) where
  abbrev pub own : Entry
  own = entry f x

  pub own_path : own.path ≡ f.present
  own_path = ap (path_for f.present) tag

  -- the tag is what the name means from then on
  pub own_seen : IsLookup f.present space.Tag x.name (declared f x).entries (length f.entries) own
  own_seen =
      record {
        seen = record {
          there = at_end f.entries own;
          visible = ap (λ p. is_prefix p f.present) own_path ∙ own_prefix f.present;
          in_space = tag;
          named = refl;
        };
        best = λ j g sees.
            elim (front_or_end f.entries own j g sees.there) [
              | inl k ↦
                  absurd (none j g (record { there = k; visible = sees.visible; in_space = sees.in_space; named = sees.named }))
              | inr k ↦ inr (ap depth (sym k.1), (let q : j ≡ length f.entries = k.0 in omega arith))
            ];
      }

  pub seen_front : (j : ℕ) (g : Entry) (n : Name) → slice_get f.entries j ≡ Some g → is_prefix g.path f.present ≡ true → g.decl.space ≡ space.Tag → g.decl.name ≡ n → Sees f.present space.Tag n (declared f x).entries j g
  seen_front j g n there vis sp named =
      record { there = at_front f.entries own j g there; visible = vis; in_space = sp; named = named }

  pub none_by : (v : Bool) → class own ≡ v → (j : ℕ) (g : Entry) (w : Bool) → class g ≡ w → slice_get f.entries j ≡ Some g → is_prefix g.path f.present ≡ true → g.decl.space ≡ space.Tag → cond w new g.decl.name ≡ cond v new x.name → ⊥
  none_by true co j g true cg there vis sp n =
      none j g
      (record {
        there = there;
        visible = vis;
        in_space = sp;
        named = of.named j g (at_front f.entries own j g there) cg ∙ sym (of.named (length f.entries) own (at_end f.entries own) co);
      })
  none_by true co j g false cg there vis sp n =
      free (numbered (length f.entries)) x.token own (
        numbered (length f.entries),
        refl,
        inr (record {
          mentions = of.named (length f.entries) own (at_end f.entries own) co;
          meant = lookup_one f.present space.Tag x.name (declared f x).entries means (length f.entries) own own_seen;
          itself = own;
          there = at_end f.entries own;
          other = numbered j;
          over = g;
          seen = seen_front j g new there vis sp n;
          inside = tt;
        }),
      )
      (at_end f.entries own)
      co
  none_by false co j g true cg there vis sp n =
      free (numbered j) x.token g (
        numbered j,
        refl,
        inl (record {
          mentions = sym n;
          itself = g;
          seen = seen_front j g old there vis sp (of.named j g (at_front f.entries own j g there) cg);
          deeper = tt;
        }),
      )
      (at_front f.entries own j g there)
      cg
  none_by false co j g false cg there vis sp n =
      none j g (record { there = there; visible = vis; in_space = sp; named = n })

  pub none_after : SeesNone f.present space.Tag (name_after class new own x.name) (all_renamed class new f).entries
  none_after j g sees =
      let k : (c : Entry) × (slice_get f.entries j ≡ Some c) × (g ≡ renamed class new c) = from_renamed class new f.entries j g sees.there in
      none_by (class own) refl j k.0 (class k.0) refl k.1
      (ap (λ (z : Entry). is_prefix z.path f.present) (sym k.2) ∙ sees.visible)
      (ap (λ (z : Entry). z.decl.space) (sym k.2) ∙ sees.in_space)
      (ap (λ (z : Entry). z.decl.name) (sym k.2) ∙ sees.named)

pub keeps_new_tag : LookupMeans → KeepsNewTag
keeps_new_tag means class old new f x of free tag none =
    lookup_none f.present space.Tag (name_after class new (entry f x) x.name) (all_renamed class new f).entries means
    (none_after class old new f x of free tag means (none_seen f.present space.Tag x.name f.entries means none))
