-- One part after another.
use Rattle.std.proofs.Common.{◌≡◌, ℕ, ◌+◌, ◌<◌, Bool, true, false, List, [], ◌∷◌, ◌++◌, length, refl, sym, ap, ◌∙◌, subst, Option, Some, None, append-nil}
use Rattle.std.specs.List.{All}
use Rattle.std.proofs.lemmas.List.Elements.{All-nil, All-cons, All-append, All-get_or}
use Rattle.cr_base.specs.declared.token.PpTok.{PpTok}
use Rattle.cr_macros.specs.declared.macros.Seen.{Seen}
use Rattle.cr_expand.specs.declared.held.Held.{Held}
use Rattle.cr_expand.specs.declared.parts.Part.{Part}
use Rattle.cr_expand.specs.declared.parts.Part.TheVariants as part
use Rattle.cr_expand.specs.declared.pasting.Pasting.{Pasting}
use Rattle.cr_macros.specs.declared.fault.ExpandFault.{ExpandFault}
use Rattle.cr_macros.specs.Tokens.{Text, Token, token_of, give}
use Rattle.cr_macros.specs.Substitution as spec
use Rattle.cr_expand.specs.HideSets.{Sets, Grows}
use Rattle.cr_expand.specs.Held.{Watch, Does, Stops, held, all_held, IsKnown, AreKnown, AreTables}
use Rattle.cr_expand.specs.Parts.{part_text, part_texts, IsPartKnown}
use Rattle.cr_expand.specs.Pasting.{left_text, IsLeftKnown, or_none, PastesOn, Takes, IsPasting, IsPastingKnown}
use Rattle.std.proofs.Common.{drop, get_or, append_assoc}
use Rattle.std.proofs.lemmas.List.{map-append}
use Rattle.cr_expand.specs.Items.{IsTokenNamed}
use Rattle.cr_expand.proofs.Sets.{grows_same, grows_then}
use Rattle.cr_expand.proofs.Bodies.{cut_at}
use Rattle.cr_expand.proofs.Kept.{token_kept, all_held_kept, all_known_later}
use Rattle.cr_expand.proofs.Fills.{part_kept}
use Rattle.cr_expand.proofs.Telling.{does_then, does_give, stops_first, stops_then}

none_text : (names : List Text) (sets : Sets) (left : Option Held) → all_held names sets (or_none left) ≡ spec.or_none (left_text names sets left)
none_text names sets None = refl
none_text names sets (Some h) = refl

none_known : (names : List Text) (sets : Sets) (left : Option Held) → IsLeftKnown names sets left → AreKnown names sets (or_none left)
none_known names sets None h = All-nil (IsKnown names sets)
none_known names sets (Some x) h = All-cons (IsKnown names sets) x [] h (All-nil (IsKnown names sets))

module _ (w : Watch) (s0 : List Seen) (names : List Text) (sets : Sets) (name : PpTok) where
  pub takes_joins : (old p : Pasting) → IsLeftKnown names sets old.left → p.out.items ≡ old.out.items → p.left ≡ old.left → p.pasting ≡ true → Takes w s0 s0 names names sets sets name old p part.Joins
  takes_joins old p k o l e = (
    [],
    o ∙ sym (append-nil old.out.items),
    All-nil (IsKnown names sets),
    subst (IsLeftKnown names sets) (sym l) k,
    record {
      does = λ hide s ps rest h. subst (λ x. Does w s0 s (spec.all_pasted (token_of names hide name) (left_text names sets x) true ps) rest) l (subst (λ b. Does w s0 s (spec.all_pasted (token_of names hide name) (left_text names sets p.left) b ps) rest) e h);
      stops = λ hide ps e1 h. subst (λ x. Stops (spec.all_pasted (token_of names hide name) (left_text names sets x) true ps) e1) l (subst (λ b. Stops (spec.all_pasted (token_of names hide name) (left_text names sets p.left) b ps) e1) e h);
    },
  )

  pub takes_placemarker : (old p : Pasting) → IsLeftKnown names sets old.left → old.pasting ≡ true → p.out.items ≡ old.out.items → p.left ≡ old.left → p.pasting ≡ false → Takes w s0 s0 names names sets sets name old p part.Placemarker
  takes_placemarker old p k b o l e = (
    [],
    o ∙ sym (append-nil old.out.items),
    All-nil (IsKnown names sets),
    subst (IsLeftKnown names sets) (sym l) k,
    record {
      does = λ hide s ps rest h.
          subst (λ x. Does w s0 s (spec.all_pasted (token_of names hide name) (left_text names sets old.left) x (spec.Placemarker ∷ ps)) rest) (sym b)
          (subst (λ x. Does w s0 s (spec.all_pasted (token_of names hide name) (left_text names sets x) false ps) rest) l (subst (λ x. Does w s0 s (spec.all_pasted (token_of names hide name) (left_text names sets p.left) x ps) rest) e h));
      stops = λ hide ps e1 h.
          subst (λ x. Stops (spec.all_pasted (token_of names hide name) (left_text names sets old.left) x (spec.Placemarker ∷ ps)) e1) (sym b)
          (subst (λ x. Stops (spec.all_pasted (token_of names hide name) (left_text names sets x) false ps) e1) l (subst (λ x. Stops (spec.all_pasted (token_of names hide name) (left_text names sets p.left) x ps) e1) e h));
    },
  )

  pub takes_gap : (old p : Pasting) → IsLeftKnown names sets old.left → old.pasting ≡ false → (p.out.items ≡ old.out.items ++ or_none old.left) × (p.left ≡ None) × (p.pasting ≡ false) → Takes w s0 s0 names names sets sets name old p part.Placemarker
  takes_gap old p k b h = (
    or_none old.left,
    h.0,
    none_known names sets old.left k,
    subst (IsLeftKnown names sets) (sym h.1) tt,
    record {
      does = λ hide s ps rest g.
          subst (λ x. Does w s0 s (spec.all_pasted (token_of names hide name) (left_text names sets old.left) x (spec.Placemarker ∷ ps)) (all_held names sets (or_none old.left) ++ rest)) (sym b)
          (does_then w s0 s s (spec.all_pasted (token_of names hide name) None false ps) (λ r. give (spec.or_none (left_text names sets old.left) ++ r)) rest (all_held names sets (or_none old.left) ++ rest)
          (subst (λ x. Does w s0 s (spec.all_pasted (token_of names hide name) (left_text names sets x) false ps) rest) h.1 (subst (λ x. Does w s0 s (spec.all_pasted (token_of names hide name) (left_text names sets p.left) x ps) rest) h.2 g))
          (subst (λ x. Does w s s (give (spec.or_none (left_text names sets old.left) ++ rest)) (x ++ rest)) (sym (none_text names sets old.left)) (does_give w s (spec.or_none (left_text names sets old.left) ++ rest))));
      stops = λ hide ps e g.
          subst (λ x. Stops (spec.all_pasted (token_of names hide name) (left_text names sets old.left) x (spec.Placemarker ∷ ps)) e) (sym b)
          (stops_first (spec.all_pasted (token_of names hide name) None false ps) (λ r. give (spec.or_none (left_text names sets old.left) ++ r)) e
          (subst (λ x. Stops (spec.all_pasted (token_of names hide name) (left_text names sets x) false ps) e) h.1 (subst (λ x. Stops (spec.all_pasted (token_of names hide name) (left_text names sets p.left) x ps) e) h.2 g)));
    },
  )

  pub takes_token : (old p : Pasting) (x0 : Held) → IsLeftKnown names sets old.left → IsKnown names sets x0 → old.pasting ≡ false → (p.out.items ≡ old.out.items ++ or_none old.left) × (p.left ≡ Some x0) × (p.pasting ≡ false) → Takes w s0 s0 names names sets sets name old p (part.Is x0)
  takes_token old p x0 k kx b h = (
    or_none old.left,
    h.0,
    none_known names sets old.left k,
    subst (IsLeftKnown names sets) (sym h.1) kx,
    record {
      does = λ hide s ps rest g.
          subst (λ x. Does w s0 s (spec.all_pasted (token_of names hide name) (left_text names sets old.left) x (spec.Is (held names sets x0) ∷ ps)) (all_held names sets (or_none old.left) ++ rest)) (sym b)
          (does_then w s0 s s (spec.all_pasted (token_of names hide name) (Some (held names sets x0)) false ps) (λ r. give (spec.or_none (left_text names sets old.left) ++ r)) rest (all_held names sets (or_none old.left) ++ rest)
          (subst (λ x. Does w s0 s (spec.all_pasted (token_of names hide name) (left_text names sets x) false ps) rest) h.1 (subst (λ x. Does w s0 s (spec.all_pasted (token_of names hide name) (left_text names sets p.left) x ps) rest) h.2 g))
          (subst (λ x. Does w s s (give (spec.or_none (left_text names sets old.left) ++ rest)) (x ++ rest)) (sym (none_text names sets old.left)) (does_give w s (spec.or_none (left_text names sets old.left) ++ rest))));
      stops = λ hide ps e g.
          subst (λ x. Stops (spec.all_pasted (token_of names hide name) (left_text names sets old.left) x (spec.Is (held names sets x0) ∷ ps)) e) (sym b)
          (stops_first (spec.all_pasted (token_of names hide name) (Some (held names sets x0)) false ps) (λ r. give (spec.or_none (left_text names sets old.left) ++ r)) e
          (subst (λ x. Stops (spec.all_pasted (token_of names hide name) (left_text names sets x) false ps) e) h.1 (subst (λ x. Stops (spec.all_pasted (token_of names hide name) (left_text names sets p.left) x ps) e) h.2 g)));
    },
  )

-- a token is pasted to what is on the left
pub takes_pasted : (w : Watch) (s0 s1 : List Seen) (names new : List Text) (sets more : Sets) (name : PpTok) (old p : Pasting) (b made : Held) → IsKnown new more made → old.pasting ≡ true → p.out.items ≡ old.out.items → p.left ≡ Some made → p.pasting ≡ false
    → ((hide : List Text) → Does w s0 s1 (spec.paste_after (token_of names hide name) (held names sets b) (left_text names sets old.left)) (held new more made))
    → Takes w s0 s1 names new sets more name old p (part.Is b)
takes_pasted w s0 s1 names new sets more name old p b made k pa o l e d = (
  [],
  o ∙ sym (append-nil old.out.items),
  All-nil (IsKnown new more),
  subst (IsLeftKnown new more) (sym l) k,
  record {
    does = λ hide s ps rest h.
        subst (λ x. Does w s0 s (spec.all_pasted (token_of names hide name) (left_text names sets old.left) x (spec.Is (held names sets b) ∷ ps)) rest) (sym pa)
        (does_then w s0 s1 s (spec.paste_after (token_of names hide name) (held names sets b) (left_text names sets old.left)) (λ c. spec.all_pasted (token_of names hide name) (Some c) false ps) (held new more made) rest (d hide)
        (subst (λ x. Does w s1 s (spec.all_pasted (token_of names hide name) (left_text new more x) false ps) rest) l (subst (λ x. Does w s1 s (spec.all_pasted (token_of names hide name) (left_text new more p.left) x ps) rest) e h)));
    stops = λ hide ps e1 h.
        subst (λ x. Stops (spec.all_pasted (token_of names hide name) (left_text names sets old.left) x (spec.Is (held names sets b) ∷ ps)) e1) (sym pa)
        (stops_then w s0 s1 (spec.paste_after (token_of names hide name) (held names sets b) (left_text names sets old.left)) (λ c. spec.all_pasted (token_of names hide name) (Some c) false ps) (held new more made) e1 (d hide)
        (subst (λ x. Stops (spec.all_pasted (token_of names hide name) (left_text new more x) false ps) e1) l (subst (λ x. Stops (spec.all_pasted (token_of names hide name) (left_text new more p.left) x ps) e1) e h)));
  },
)

pub pasted_stops : (names : List Text) (sets : Sets) (hide : List Text) (name : PpTok) (left : Option Held) (pasting : Bool) (p : Part) (b : Held) (e : ExpandFault) (ps : List spec.Part) → p ≡ part.Is b → pasting ≡ true
    → Stops (spec.paste_after (token_of names hide name) (held names sets b) (left_text names sets left)) e → Stops (spec.all_pasted (token_of names hide name) (left_text names sets left) pasting (part_text names sets p ∷ ps)) e
pasted_stops names sets hide name left pasting p b e ps i j h =
    subst (λ x. Stops (spec.all_pasted (token_of names hide name) (left_text names sets left) pasting (part_text names sets x ∷ ps)) e) (sym i)
    (subst (λ x. Stops (spec.all_pasted (token_of names hide name) (left_text names sets left) x (spec.Is (held names sets b) ∷ ps)) e) (sym j)
    (stops_first (spec.paste_after (token_of names hide name) (held names sets b) (left_text names sets left)) (λ c. spec.all_pasted (token_of names hide name) (Some c) false ps) e h))

pub pasting_starts : (w : Watch) (s : List Seen) (names : List Text) (sets : Sets) (name : PpTok) (parts : List Part) (p : Pasting) → AreTables names sets → p.out.items ≡ [] → p.left ≡ None → p.pasting ≡ false → IsPasting w s s names names sets sets name parts parts p
pasting_starts w s names sets name parts p t o l b = record {
  grows = grows_same names;
  sets_grow = grows_same sets;
  tables = t;
  known = (subst (AreKnown names sets) (sym o) (All-nil (IsKnown names sets)), subst (IsLeftKnown names sets) (sym l) tt);
  does = λ hide s1 rest h.
      subst (λ x. Does w s s1 (spec.all_pasted (token_of names hide name) None false (part_texts names sets parts)) (all_held names sets x ++ rest)) (sym o)
      (subst (λ x. Does w s s1 (spec.all_pasted (token_of names hide name) (left_text names sets x) false (part_texts names sets parts)) rest) l
      (subst (λ x. Does w s s1 (spec.all_pasted (token_of names hide name) (left_text names sets p.left) x (part_texts names sets parts)) rest) b h));
  stops = λ hide e h.
      subst (λ x. Stops (spec.all_pasted (token_of names hide name) (left_text names sets x) false (part_texts names sets parts)) e) l
      (subst (λ x. Stops (spec.all_pasted (token_of names hide name) (left_text names sets p.left) x (part_texts names sets parts)) e) b h);
}

first_kept : (names n1 : List Text) (sets m1 : Sets) (parts : List Part) (i : ℕ) (d : Part) → AreTables names sets → All (IsPartKnown names sets) parts → i < length parts → Grows names n1 → Grows sets m1
    → part_texts n1 m1 (get_or parts i d ∷ []) ++ part_texts names sets (drop (i + 1) parts) ≡ part_texts names sets (drop i parts)
first_kept names n1 sets m1 parts i d t k l g h =
    ap (λ x. x ∷ part_texts names sets (drop (i + 1) parts)) (part_kept names n1 sets m1 (get_or parts i d) g h t.named (All-get_or (IsPartKnown names sets) parts i d l k))
    ∙ ap (part_texts names sets) (sym (cut_at parts i d l))

pub pasting_goes_on : (w w1 : Watch) (s0 s1 s2 : List Seen) (names n1 n2 : List Text) (sets m1 m2 : Sets) (name : PpTok) (parts : List Part) (i : ℕ) (d : Part) (p q : Pasting)
    → AreTables names sets → IsTokenNamed names name → All (IsPartKnown names sets) parts → w1 ≡ w → i < length parts → Grows n1 n2 → Grows m1 m2 → AreTables n2 m2
    → IsPasting w s0 s1 names n1 sets m1 name parts (drop i parts) p → Takes w1 s1 s2 n1 n2 m1 m2 name p q (get_or parts i d)
    → IsPasting w s0 s2 names n2 sets m2 name parts (drop (i + 1) parts) q
pasting_goes_on w w1 s0 s1 s2 names n1 n2 sets m1 m2 name parts i d p q t k known e l g h t2 f takes =
    let added : List Held = takes.0 in
    let kept : all_held n2 m2 p.out.items ≡ all_held n1 m1 p.out.items = all_held_kept n1 n2 m1 m2 p.out.items g h f.tables.named f.known.0 in
    let first = first_kept names n1 sets m1 parts i d t known l f.grows f.sets_grow in
    let on : PastesOn w s1 s2 n1 n2 m1 m2 name p.left q.left p.pasting q.pasting (get_or parts i d ∷ []) added = subst (λ x. PastesOn x s1 s2 n1 n2 m1 m2 name p.left q.left p.pasting q.pasting (get_or parts i d ∷ []) added) e takes.4 in
    let out : (rest : List Token) → all_held n1 m1 p.out.items ++ (all_held n2 m2 added ++ rest) ≡ all_held n2 m2 q.out.items ++ rest =
    λ rest. ap (λ x. x ++ (all_held n2 m2 added ++ rest)) (sym kept) ∙ sym (append_assoc (all_held n2 m2 p.out.items) (all_held n2 m2 added) rest)
    ∙ ap (λ x. x ++ rest) (sym (map-append (λ x. held n2 m2 x) p.out.items added)) ∙ ap (λ x. all_held n2 m2 x ++ rest) (sym takes.1) in
    record {
      grows = grows_then names n1 n2 f.grows g;
      sets_grow = grows_then sets m1 m2 f.sets_grow h;
      tables = t2;
      known = (subst (AreKnown n2 m2) (sym takes.1) (All-append (IsKnown n2 m2) p.out.items added (all_known_later n1 n2 m1 m2 p.out.items g h f.known.0) takes.2), takes.3);
      does = λ hide s rest a.
          let same : token_of n1 hide name ≡ token_of names hide name = token_kept names n1 hide name f.grows k in
          subst (Does w s0 s (spec.all_pasted (token_of names hide name) None false (part_texts names sets parts))) (out rest)
          (f.does hide s (all_held n2 m2 added ++ rest)
          (subst (λ x. Does w s1 s (spec.all_pasted (token_of names hide name) (left_text n1 m1 p.left) p.pasting x) (all_held n2 m2 added ++ rest)) first
          (subst (λ x. Does w s1 s (spec.all_pasted x (left_text n1 m1 p.left) p.pasting (part_texts n1 m1 (get_or parts i d ∷ []) ++ part_texts names sets (drop (i + 1) parts))) (all_held n2 m2 added ++ rest)) same
          (on.does hide s (part_texts names sets (drop (i + 1) parts)) rest
          (subst (λ x. Does w s2 s (spec.all_pasted x (left_text n2 m2 q.left) q.pasting (part_texts names sets (drop (i + 1) parts))) rest) (sym same) a)))));
      stops = λ hide e1 a.
          let same : token_of n1 hide name ≡ token_of names hide name = token_kept names n1 hide name f.grows k in
          f.stops hide e1
          (subst (λ x. Stops (spec.all_pasted (token_of names hide name) (left_text n1 m1 p.left) p.pasting x) e1) first
          (subst (λ x. Stops (spec.all_pasted x (left_text n1 m1 p.left) p.pasting (part_texts n1 m1 (get_or parts i d ∷ []) ++ part_texts names sets (drop (i + 1) parts))) e1) same
          (on.stops hide (part_texts names sets (drop (i + 1) parts)) e1
          (subst (λ x. Stops (spec.all_pasted x (left_text n2 m2 q.left) q.pasting (part_texts names sets (drop (i + 1) parts))) e1) (sym same) a))));
    }

pub pasting_stops : (w : Watch) (s0 s1 : List Seen) (names n1 : List Text) (sets m1 : Sets) (hide : List Text) (name : PpTok) (parts : List Part) (i : ℕ) (d : Part) (p : Pasting) (e : ExpandFault)
    → AreTables names sets → IsTokenNamed names name → All (IsPartKnown names sets) parts → i < length parts
    → IsPasting w s0 s1 names n1 sets m1 name parts (drop i parts) p
    → Stops (spec.all_pasted (token_of n1 hide name) (left_text n1 m1 p.left) p.pasting (part_text n1 m1 (get_or parts i d) ∷ part_texts names sets (drop (i + 1) parts))) e
    → Stops (spec.all_pasted (token_of names hide name) None false (part_texts names sets parts)) e
pasting_stops w s0 s1 names n1 sets m1 hide name parts i d p e t k known l f h =
    f.stops hide e
    (subst (λ x. Stops (spec.all_pasted (token_of names hide name) (left_text n1 m1 p.left) p.pasting x) e) (first_kept names n1 sets m1 parts i d t known l f.grows f.sets_grow)
    (subst (λ x. Stops (spec.all_pasted x (left_text n1 m1 p.left) p.pasting (part_text n1 m1 (get_or parts i d) ∷ part_texts names sets (drop (i + 1) parts))) e) (token_kept names n1 hide name f.grows k) h))

pub pasting_ends : (w : Watch) (s0 s1 : List Seen) (names n1 : List Text) (sets m1 : Sets) (hide : List Text) (name : PpTok) (parts rest_parts : List Part) (p : Pasting) (out : List Held) → rest_parts ≡ [] → out ≡ p.out.items ++ or_none p.left
    → IsPasting w s0 s1 names n1 sets m1 name parts rest_parts p → Does w s0 s1 (spec.all_pasted (token_of names hide name) None false (part_texts names sets parts)) (all_held n1 m1 out)
pasting_ends w s0 s1 names n1 sets m1 hide name parts rest_parts p out e o f =
    subst (Does w s0 s1 (spec.all_pasted (token_of names hide name) None false (part_texts names sets parts)))
    (ap (λ x. all_held n1 m1 p.out.items ++ x) (sym (none_text n1 m1 p.left)) ∙ sym (map-append (λ x. held n1 m1 x) p.out.items (or_none p.left)) ∙ ap (all_held n1 m1) (sym o))
    (f.does hide s1 (spec.or_none (left_text n1 m1 p.left))
    (subst (λ x. Does w s1 s1 (spec.all_pasted (token_of names hide name) (left_text n1 m1 p.left) p.pasting (part_texts names sets x)) (spec.or_none (left_text n1 m1 p.left))) (sym e) (does_give w s1 (spec.or_none (left_text n1 m1 p.left)))))

pub pasting_known : (names : List Text) (sets : Sets) (p : Pasting) (out : List Held) → out ≡ p.out.items ++ or_none p.left → IsPastingKnown names sets p → AreKnown names sets out
pasting_known names sets p out o k = subst (AreKnown names sets) (sym o) (All-append (IsKnown names sets) p.out.items (or_none p.left) k.0 (none_known names sets p.left k.1))
