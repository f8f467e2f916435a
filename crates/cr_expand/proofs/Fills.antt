-- Items filled in, by their texts.
use Rattle.std.proofs.Common.{◌≡◌, ℕ, zero, suc, ◌+◌, ◌<◌, drop, get_or, Bool, List, [], ◌∷◌, ◌++◌, length, map, refl, sym, ap, ◌∙◌, subst}
use Rattle.std.specs.List.{All}
use Rattle.std.proofs.lemmas.List.Elements.{All-head, All-tail, All-cons, All-nil, All-get_or, All-weaker, All-append}
use Rattle.cr_base.specs.declared.token.PpTok.{PpTok}
use Rattle.cr_macros.specs.declared.macros.Seen.{Seen}
use Rattle.cr_expand.specs.declared.held.Held.{Held}
use Rattle.cr_expand.specs.declared.items.Item.{Item}
use Rattle.cr_expand.specs.declared.items.Item.TheVariants as item
use Rattle.cr_expand.specs.declared.parts.Part.{Part}
use Rattle.cr_expand.specs.declared.parts.Part.TheVariants as part
use Rattle.cr_macros.specs.declared.fault.ExpandFault.{ExpandFault}
use Rattle.cr_macros.specs.Tokens.{Text, Token, token_of, give, ◌>>=◌}
use Rattle.cr_macros.specs.Substitution as spec
use Rattle.cr_expand.specs.HideSets.{Sets, set_at, Grows}
use Rattle.cr_macros.specs.Definition.{text_of}
use Rattle.cr_expand.specs.Held.{held, all_held, all_args, Watch, Does, Stops, IsKnown, AreKnown, IsNamed, AreTables}
use Rattle.cr_expand.specs.Items.{item_text, IsTokenNamed}
use Rattle.cr_expand.specs.Parts.{part_text, part_texts, IsPartKnown, arg_here, spaced, parts_here, or_placemarker_here, comma_and_here, unhidden, filled_here, IsMade, IsItemNamed, filled_text, all_filled_text, Adds, IsFilling}
use Rattle.cr_expand.proofs.Telling.{does_then, does_give, stops_first, stops_then}
use Rattle.cr_expand.proofs.Kept.{token_kept, all_args_kept, held_kept, known_later, sets_named_later}
use Rattle.cr_base.specs.NameTable.{IsDistinct}
use Rattle.std.proofs.lemmas.List.{map-append}
use Rattle.std.proofs.Common.{append_assoc, append-nil}
use Rattle.cr_expand.proofs.Sets.{grows_same, grows_then}
use Rattle.cr_expand.proofs.Bodies.{cut_at}

pub arg_text : (names : List Text) (sets : Sets) (args : List (List Held)) (i : ℕ) → spec.arg_at (all_args names sets args) i ≡ all_held names sets (arg_here args i)
arg_text names sets [] i = refl
arg_text names sets (a ∷ args) zero = refl
arg_text names sets (a ∷ args) (suc i) = arg_text names sets args i

spaced_text : (names : List Text) (sets : Sets) (space : Bool) (hs : List Held) → all_held names sets (spaced space hs) ≡ spec.with_space space (all_held names sets hs)
spaced_text names sets space [] = refl
spaced_text names sets space (h ∷ hs) = refl

parts_text : (names : List Text) (sets : Sets) (hs : List Held) → part_texts names sets (parts_here hs) ≡ spec.parts_of (all_held names sets hs)
parts_text names sets [] = refl
parts_text names sets (h ∷ hs) = ap (λ ps. spec.Is (held names sets h) ∷ ps) (parts_text names sets hs)

placemarker_text : (names : List Text) (sets : Sets) (hs : List Held) → part_texts names sets (or_placemarker_here hs) ≡ spec.or_placemarker (all_held names sets hs)
placemarker_text names sets [] = refl
placemarker_text names sets (h ∷ hs) = ap (λ ps. spec.Is (held names sets h) ∷ ps) (parts_text names sets hs)

unhidden_text : (names : List Text) (sets : Sets) (t : PpTok) → set_at sets 0 ≡ [] → held names sets (unhidden t) ≡ token_of names [] t
unhidden_text names sets t e = ap (λ s. token_of names (map (text_of names) s) t) e

comma_text : (names : List Text) (sets : Sets) (comma : PpTok) (rest : List Part) (raw : List Held) → set_at sets 0 ≡ [] → part_texts names sets (comma_and_here (unhidden comma) rest raw) ≡ spec.comma_and (token_of names [] comma) (part_texts names sets rest) (all_held names sets raw)
comma_text names sets comma rest [] e = refl
comma_text names sets comma rest (a ∷ raw) e = ap (λ t. spec.Is t ∷ part_texts names sets rest) (unhidden_text names sets comma e)

spaced_arg : (names : List Text) (sets : Sets) (space : Bool) (args : List (List Held)) (i : ℕ) → all_held names sets (spaced space (arg_here args i)) ≡ spec.with_space space (spec.arg_at (all_args names sets args) i)
spaced_arg names sets space args i = spaced_text names sets space (arg_here args i) ∙ ap (spec.with_space space) (sym (arg_text names sets args i))

given : (w : Watch) (s0 s1 : List Seen) (ps qs : List spec.Part) → qs ≡ ps → s1 ≡ s0 → Does w s0 s1 (give ps) qs
given w s0 s1 ps qs e h = subst (λ v. Does w s0 s1 (give ps) v) (sym e) (subst (λ s. Does w s0 s (give ps) ps) (sym h) (does_give w s0 ps))

-- what an item gives is what was put for it
pub fill_does : (w : Watch) (s0 s1 : List Seen) (names new : List Text) (sets : Sets) (name : Token) (raw full : List (List Held)) (made : Held) (i : Item) → set_at sets 0 ≡ [] → IsMade w s0 s1 names new sets name raw made i
    → Does w s0 s1 (filled_text names sets name raw full i) (part_texts new sets (filled_here raw full made i))
fill_does w s0 s1 names new sets name raw full made (item.Stays t) e h =
    given w s0 s1 _ _ (ap (λ n. part_texts n sets (filled_here raw full made (item.Stays t))) h.0 ∙ ap (λ x. spec.Is x ∷ []) (unhidden_text names sets t e)) h.1
fill_does w s0 s1 names new sets name raw full made (item.Spelt hash i) e h =
    does_then w s0 s1 s1 (spec.string_of name (token_of names [] hash) (spec.arg_at (all_args names sets raw) i)) (λ s. give (spec.Is s ∷ [])) (held new sets made) (spec.Is (held new sets made) ∷ [])
    (subst (λ a. Does w s0 s1 (spec.string_of name (token_of names [] hash) a) (held new sets made)) (sym (arg_text names sets raw i)) h.0)
    (does_give w s1 (spec.Is (held new sets made) ∷ []))
fill_does w s0 s1 names new sets name raw full made (item.Bare t i) e h =
    given w s0 s1 _ _ (ap (λ n. part_texts n sets (filled_here raw full made (item.Bare t i))) h.0
    ∙ placemarker_text names sets (spaced t.space (arg_here raw i)) ∙ ap spec.or_placemarker (spaced_arg names sets t.space raw i)) h.1
fill_does w s0 s1 names new sets name raw full made (item.Full t i) e h =
    given w s0 s1 _ _ (ap (λ n. part_texts n sets (filled_here raw full made (item.Full t i))) h.0
    ∙ parts_text names sets (spaced t.space (arg_here full i)) ∙ ap spec.parts_of (spaced_arg names sets t.space full i)) h.1
fill_does w s0 s1 names new sets name raw full made (item.CommaRest comma t i) e h =
    given w s0 s1 _ _ (ap (λ n. part_texts n sets (filled_here raw full made (item.CommaRest comma t i))) h.0
    ∙ comma_text names sets comma (or_placemarker_here (spaced t.space (arg_here full i))) (arg_here raw i) e
    ∙ ap (λ x. spec.comma_and (token_of names [] comma) x (all_held names sets (arg_here raw i))) (placemarker_text names sets (spaced t.space (arg_here full i)) ∙ ap spec.or_placemarker (spaced_arg names sets t.space full i))
    ∙ ap (spec.comma_and (token_of names [] comma) (spec.or_placemarker (spec.with_space t.space (spec.arg_at (all_args names sets full) i)))) (sym (arg_text names sets raw i))) h.1
fill_does w s0 s1 names new sets name raw full made item.Paste e h = given w s0 s1 _ _ refl h.1

arg_known : (names : List Text) (sets : Sets) (args : List (List Held)) (i : ℕ) → All (AreKnown names sets) args → AreKnown names sets (arg_here args i)
arg_known names sets [] i h = All-nil (IsKnown names sets)
arg_known names sets (a ∷ args) zero h = All-head (AreKnown names sets) a args h
arg_known names sets (a ∷ args) (suc i) h = arg_known names sets args i (All-tail (AreKnown names sets) a args h)

spaced_known : (names : List Text) (sets : Sets) (space : Bool) (hs : List Held) → AreKnown names sets hs → AreKnown names sets (spaced space hs)
spaced_known names sets space [] h = h
spaced_known names sets space (x ∷ hs) h = All-cons (IsKnown names sets) _ hs (All-head (IsKnown names sets) x hs h) (All-tail (IsKnown names sets) x hs h)

parts_known : (names : List Text) (sets : Sets) (hs : List Held) → AreKnown names sets hs → All (IsPartKnown names sets) (parts_here hs)
parts_known names sets [] h = All-nil (IsPartKnown names sets)
parts_known names sets (x ∷ hs) h = All-cons (IsPartKnown names sets) (part.Is x) (parts_here hs) (All-head (IsKnown names sets) x hs h) (parts_known names sets hs (All-tail (IsKnown names sets) x hs h))

placemarker_known : (names : List Text) (sets : Sets) (hs : List Held) → AreKnown names sets hs → All (IsPartKnown names sets) (or_placemarker_here hs)
placemarker_known names sets [] h = All-cons (IsPartKnown names sets) part.Placemarker [] tt (All-nil (IsPartKnown names sets))
placemarker_known names sets (x ∷ hs) h = parts_known names sets (x ∷ hs) h

comma_known : (names : List Text) (sets : Sets) (comma : PpTok) (rest : List Part) (raw : List Held) → IsTokenNamed names comma → 0 < length sets → All (IsPartKnown names sets) rest
    → All (IsPartKnown names sets) (comma_and_here (unhidden comma) rest raw)
comma_known names sets comma rest [] h k a = All-cons (IsPartKnown names sets) part.Placemarker [] tt (All-nil (IsPartKnown names sets))
comma_known names sets comma rest (x ∷ raw) h k a = All-cons (IsPartKnown names sets) (part.Is (unhidden comma)) rest (h, k) a

-- what was put is known
pub fill_known : (w : Watch) (s0 s1 : List Seen) (names new : List Text) (sets : Sets) (name : Token) (raw full : List (List Held)) (made : Held) (i : Item) → 0 < length sets → IsItemNamed names i
    → All (AreKnown names sets) raw → All (AreKnown names sets) full → IsMade w s0 s1 names new sets name raw made i → All (IsPartKnown new sets) (filled_here raw full made i)
fill_known w s0 s1 names new sets name raw full made (item.Stays t) k n a b h =
    All-cons (IsPartKnown new sets) (part.Is (unhidden t)) [] (subst (λ x. IsKnown x sets (unhidden t)) (sym h.0) (n, k)) (All-nil (IsPartKnown new sets))
fill_known w s0 s1 names new sets name raw full made (item.Spelt hash i) k n a b h = All-cons (IsPartKnown new sets) (part.Is made) [] h.1 (All-nil (IsPartKnown new sets))
fill_known w s0 s1 names new sets name raw full made (item.Bare t i) k n a b h =
    subst (λ x. All (IsPartKnown x sets) (filled_here raw full made (item.Bare t i))) (sym h.0) (placemarker_known names sets _ (spaced_known names sets t.space _ (arg_known names sets raw i a)))
fill_known w s0 s1 names new sets name raw full made (item.Full t i) k n a b h =
    subst (λ x. All (IsPartKnown x sets) (filled_here raw full made (item.Full t i))) (sym h.0) (parts_known names sets _ (spaced_known names sets t.space _ (arg_known names sets full i b)))
fill_known w s0 s1 names new sets name raw full made (item.CommaRest comma t i) k n a b h =
    subst (λ x. All (IsPartKnown x sets) (filled_here raw full made (item.CommaRest comma t i))) (sym h.0)
    (comma_known names sets comma _ (arg_here raw i) n.0 k (placemarker_known names sets _ (spaced_known names sets t.space _ (arg_known names sets full i b))))
fill_known w s0 s1 names new sets name raw full made item.Paste k n a b h = All-cons (IsPartKnown new sets) part.Joins [] tt (All-nil (IsPartKnown new sets))

pub string_made : (w : Watch) (s0 s1 : List Seen) (names new : List Text) (sets : Sets) (name : Token) (raw : List (List Held)) (made : Held) (i : Item) (hash : PpTok) (n : ℕ) (arg : List Held) → i ≡ item.Spelt hash n → arg ≡ arg_here raw n
    → Does w s0 s1 (spec.string_of name (token_of names [] hash) (all_held names sets arg)) (held new sets made) → IsKnown new sets made → IsMade w s0 s1 names new sets name raw made i
string_made w s0 s1 names new sets name raw made i hash n arg e a h k =
    subst (λ x. IsMade w s0 s1 names new sets name raw made x) (sym e)
    (subst (λ x. Does w s0 s1 (spec.string_of name (token_of names [] hash) (all_held names sets x)) (held new sets made)) a h, k)

pub string_item_stops : (names : List Text) (sets : Sets) (name : Token) (raw full : List (List Held)) (i : Item) (hash : PpTok) (n : ℕ) (arg : List Held) (e : ExpandFault) → i ≡ item.Spelt hash n → arg ≡ arg_here raw n
    → Stops (spec.string_of name (token_of names [] hash) (all_held names sets arg)) e → Stops (filled_text names sets name raw full i) e
string_item_stops names sets name raw full i hash n arg e f a h =
    subst (λ x. Stops (filled_text names sets name raw full x) e) (sym f)
    (stops_first (spec.string_of name (token_of names [] hash) (spec.arg_at (all_args names sets raw) n)) (λ s. give (spec.Is s ∷ [])) e
    (subst (λ x. Stops (spec.string_of name (token_of names [] hash) x) e) (ap (all_held names sets) a ∙ sym (arg_text names sets raw n)) h))

item_kept : (names new : List Text) (i : Item) → Grows names new → IsItemNamed names i → item_text new i ≡ item_text names i
item_kept names new (item.Stays t) g h = ap spec.Stays (token_kept names new [] t g h)
item_kept names new (item.Spelt t i) g h = ap (λ x. spec.Spelt x i) (token_kept names new [] t g h)
item_kept names new (item.Bare t i) g h = ap (λ x. spec.Bare x i) (token_kept names new [] t g h)
item_kept names new (item.Full t i) g h = ap (λ x. spec.Full x i) (token_kept names new [] t g h)
item_kept names new (item.CommaRest c t i) g h = ap (λ x. spec.CommaRest x (token_of new [] t) i) (token_kept names new [] c g h.0) ∙ ap (λ x. spec.CommaRest (token_of names [] c) x i) (token_kept names new [] t g h.1)
item_kept names new item.Paste g h = refl

pub filled_kept : (names new : List Text) (sets : Sets) (hide : List Text) (name : PpTok) (raw full : List (List Held)) (i : Item) → Grows names new → All (All (IsNamed names)) sets → All (AreKnown names sets) raw → All (AreKnown names sets) full
    → IsItemNamed names i → IsTokenNamed names name → filled_text new sets (token_of new hide name) raw full i ≡ filled_text names sets (token_of names hide name) raw full i
filled_kept names new sets hide name raw full i g n a b h k =
    ap (λ t. filled_text new sets t raw full i) (token_kept names new hide name g k)
    ∙ ap (λ x. spec.filled (token_of names hide name) x (all_args new sets full) (item_text new i)) (all_args_kept names new sets sets raw g (grows_same sets) n a)
    ∙ ap (λ x. spec.filled (token_of names hide name) (all_args names sets raw) x (item_text new i)) (all_args_kept names new sets sets full g (grows_same sets) n b)
    ∙ ap (spec.filled (token_of names hide name) (all_args names sets raw) (all_args names sets full)) (item_kept names new i g h)

pub part_kept : (names new : List Text) (sets more : Sets) (p : Part) → Grows names new → Grows sets more → All (All (IsNamed names)) sets → IsPartKnown names sets p → part_text new more p ≡ part_text names sets p
part_kept names new sets more (part.Is h) g k n l = ap spec.Is (held_kept names new sets more h g k n l)
part_kept names new sets more part.Placemarker g k n l = refl
part_kept names new sets more part.Joins g k n l = refl

pub parts_kept : (names new : List Text) (sets more : Sets) (ps : List Part) → Grows names new → Grows sets more → All (All (IsNamed names)) sets → All (IsPartKnown names sets) ps → part_texts new more ps ≡ part_texts names sets ps
parts_kept names new sets more [] g k n l = refl
parts_kept names new sets more (p ∷ ps) g k n l =
    ap (λ x. x ∷ part_texts new more ps) (part_kept names new sets more p g k n (All-head (IsPartKnown names sets) p ps l))
    ∙ ap (λ x. part_text names sets p ∷ x) (parts_kept names new sets more ps g k n (All-tail (IsPartKnown names sets) p ps l))

part_later : (names new : List Text) (sets more : Sets) (p : Part) → Grows names new → Grows sets more → IsPartKnown names sets p → IsPartKnown new more p
part_later names new sets more (part.Is h) g k l = known_later names new sets more h g k l
part_later names new sets more part.Placemarker g k l = tt
part_later names new sets more part.Joins g k l = tt

pub parts_later : (names new : List Text) (sets more : Sets) (ps : List Part) → Grows names new → Grows sets more → All (IsPartKnown names sets) ps → All (IsPartKnown new more) ps
parts_later names new sets more ps g k l = All-weaker (IsPartKnown names sets) (IsPartKnown new more) (λ p. part_later names new sets more p g k) ps l

-- one more item is filled in, and then the rest
pub fill_goes_on : (w : Watch) (s1 s2 s : List Seen) (names : List Text) (sets : Sets) (name : Token) (raw full : List (List Held)) (is1 : List Item) (i : ℕ) (d : Item) (ps rest : List spec.Part) → i < length is1
    → Does w s1 s2 (filled_text names sets name raw full (get_or is1 i d)) ps → Does w s2 s (all_filled_text names sets name raw full (drop (i + 1) is1)) rest
    → Does w s1 s (all_filled_text names sets name raw full (drop i is1)) (ps ++ rest)
fill_goes_on w s1 s2 s names sets name raw full is1 i d ps rest l h k =
    subst (λ x. Does w s1 s (all_filled_text names sets name raw full x) (ps ++ rest)) (sym (cut_at is1 i d l))
    (does_then w s1 s2 s (filled_text names sets name raw full (get_or is1 i d)) (λ qs. all_filled_text names sets name raw full (drop (i + 1) is1) >>= λ more. give (qs ++ more)) ps (ps ++ rest) h
    (does_then w s2 s s (all_filled_text names sets name raw full (drop (i + 1) is1)) (λ more. give (ps ++ more)) rest (ps ++ rest) k (does_give w s (ps ++ rest))))

pub fill_stops_here : (names : List Text) (sets : Sets) (name : Token) (raw full : List (List Held)) (is1 : List Item) (i : ℕ) (d : Item) (e : ExpandFault) → i < length is1
    → Stops (filled_text names sets name raw full (get_or is1 i d)) e → Stops (all_filled_text names sets name raw full (drop i is1)) e
fill_stops_here names sets name raw full is1 i d e l h =
    subst (λ x. Stops (all_filled_text names sets name raw full x) e) (sym (cut_at is1 i d l))
    (stops_first (filled_text names sets name raw full (get_or is1 i d)) (λ qs. all_filled_text names sets name raw full (drop (i + 1) is1) >>= λ more. give (qs ++ more)) e h)

pub fill_stops_later : (w : Watch) (s1 s2 : List Seen) (names : List Text) (sets : Sets) (name : Token) (raw full : List (List Held)) (is1 : List Item) (i : ℕ) (d : Item) (ps : List spec.Part) (e : ExpandFault) → i < length is1
    → Does w s1 s2 (filled_text names sets name raw full (get_or is1 i d)) ps → Stops (all_filled_text names sets name raw full (drop (i + 1) is1)) e → Stops (all_filled_text names sets name raw full (drop i is1)) e
fill_stops_later w s1 s2 names sets name raw full is1 i d ps e l h k =
    subst (λ x. Stops (all_filled_text names sets name raw full x) e) (sym (cut_at is1 i d l))
    (stops_then w s1 s2 (filled_text names sets name raw full (get_or is1 i d)) (λ qs. all_filled_text names sets name raw full (drop (i + 1) is1) >>= λ more. give (qs ++ more)) ps e h
    (stops_first (all_filled_text names sets name raw full (drop (i + 1) is1)) (λ more. give (ps ++ more)) e k))

pub filling_starts : (w : Watch) (s : List Seen) (names : List Text) (sets : Sets) (name : PpTok) (raw full : List (List Held)) (is1 : List Item) → IsDistinct names → IsFilling w s s names names sets name raw full is1 is1 []
filling_starts w s names sets name raw full is1 d = record {
  grows = grows_same names;
  distinct = d;
  known = All-nil (IsPartKnown names sets);
  does = λ hide s1 rest h. h;
  stops = λ hide e h. h;
}

-- one more item is filled in
pub filling_goes_on : (w w1 : Watch) (s0 s1 s2 : List Seen) (names n1 n2 : List Text) (sets : Sets) (name : PpTok) (raw full : List (List Held)) (is1 : List Item) (i : ℕ) (d : Item) (ps qs : List Part)
    → AreTables names sets → IsTokenNamed names name → All (IsItemNamed names) is1 → All (AreKnown names sets) raw → All (AreKnown names sets) full → w1 ≡ w → i < length is1 → Grows n1 n2 → IsDistinct n2
    → IsFilling w s0 s1 names n1 sets name raw full is1 (drop i is1) ps
    → ((hide : List Text) → Adds w1 s1 s2 (filled_text n1 sets (token_of n1 hide name) raw full (get_or is1 i d)) n2 sets ps qs)
    → IsFilling w s0 s2 names n2 sets name raw full is1 (drop (i + 1) is1) qs
filling_goes_on w w1 s0 s1 s2 names n1 n2 sets name raw full is1 i d ps qs t k named a b e l g dis f adds =
    let one = adds [] in
    let n1_named : All (All (IsNamed n1)) sets = sets_named_later names n1 sets f.grows t.named in
    let item_named : IsItemNamed names (get_or is1 i d) = All-get_or (IsItemNamed names) is1 i d l named in
    let does_one : (hide : List Text) → Does w s1 s2 (filled_text names sets (token_of names hide name) raw full (get_or is1 i d)) (part_texts n2 sets (adds hide).0) =
    λ hide. subst (λ x. Does x s1 s2 (filled_text names sets (token_of names hide name) raw full (get_or is1 i d)) (part_texts n2 sets (adds hide).0)) e
    (subst (λ m. Does w1 s1 s2 m (part_texts n2 sets (adds hide).0)) (filled_kept names n1 sets hide name raw full (get_or is1 i d) f.grows t.named a b item_named k) (adds hide).2) in
    record {
      grows = grows_then names n1 n2 f.grows g;
      distinct = dis;
      known = subst (All (IsPartKnown n2 sets)) (sym one.1) (All-append (IsPartKnown n2 sets) ps one.0 (parts_later n1 n2 sets sets ps g (grows_same sets) f.known) one.3);
      does = λ hide s rest h.
          subst (λ x. Does w s0 s (all_filled_text names sets (token_of names hide name) raw full is1) x)
          (ap (λ x. x ++ (part_texts n2 sets (adds hide).0 ++ rest)) (sym (parts_kept n1 n2 sets sets ps g (grows_same sets) n1_named f.known))
          ∙ sym (append_assoc (part_texts n2 sets ps) (part_texts n2 sets (adds hide).0) rest)
          ∙ ap (λ x. x ++ rest) (sym (map-append (part_text n2 sets) ps (adds hide).0))
          ∙ ap (λ x. part_texts n2 sets x ++ rest) (sym (adds hide).1))
          (f.does hide s (part_texts n2 sets (adds hide).0 ++ rest) (fill_goes_on w s1 s2 s names sets (token_of names hide name) raw full is1 i d (part_texts n2 sets (adds hide).0) rest l (does_one hide) h));
      stops = λ hide e1 h. f.stops hide e1 (fill_stops_later w s1 s2 names sets (token_of names hide name) raw full is1 i d (part_texts n2 sets (adds hide).0) e1 l (does_one hide) h);
    }

pub filling_stops : (w : Watch) (s0 s1 : List Seen) (names n1 : List Text) (sets : Sets) (hide : List Text) (name : PpTok) (raw full : List (List Held)) (is1 : List Item) (i : ℕ) (d : Item) (ps : List Part) (e : ExpandFault)
    → AreTables names sets → IsTokenNamed names name → All (IsItemNamed names) is1 → All (AreKnown names sets) raw → All (AreKnown names sets) full → i < length is1
    → IsFilling w s0 s1 names n1 sets name raw full is1 (drop i is1) ps → Stops (filled_text n1 sets (token_of n1 hide name) raw full (get_or is1 i d)) e
    → Stops (all_filled_text names sets (token_of names hide name) raw full is1) e
filling_stops w s0 s1 names n1 sets hide name raw full is1 i d ps e t k named a b l f h =
    f.stops hide e (fill_stops_here names sets (token_of names hide name) raw full is1 i d e l
    (subst (λ m. Stops m e) (filled_kept names n1 sets hide name raw full (get_or is1 i d) f.grows t.named a b (All-get_or (IsItemNamed names) is1 i d l named) k) h))

pub filling_ends : (w : Watch) (s0 s1 : List Seen) (names n1 : List Text) (sets : Sets) (hide : List Text) (name : PpTok) (raw full : List (List Held)) (is1 left : List Item) (ps : List Part)
    → left ≡ [] → IsFilling w s0 s1 names n1 sets name raw full is1 left ps → Does w s0 s1 (all_filled_text names sets (token_of names hide name) raw full is1) (part_texts n1 sets ps)
filling_ends w s0 s1 names n1 sets hide name raw full is1 left ps e f =
    subst (Does w s0 s1 (all_filled_text names sets (token_of names hide name) raw full is1)) (append-nil (part_texts n1 sets ps))
    (f.does hide s1 [] (subst (λ x. Does w s1 s1 (all_filled_text names sets (token_of names hide name) raw full x) []) (sym e) (does_give w s1 [])))
