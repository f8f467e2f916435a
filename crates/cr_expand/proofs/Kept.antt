-- What is known stays as it was when the tables grow.
use Rattle.std.proofs.Common.{◌≡◌, ℕ, ◌<◌, ◌≤◌, List, [], ◌∷◌, ◌++◌, length, map, get_or, refl, sym, ap, ◌∙◌, arith, length-append, append-nil, Bool, true, false}
use Rattle.std.specs.Prelude.{if◌then◌else◌}
use Rattle.cr_base.specs.NameTable.{IsDistinct}
use Rattle.std.specs.List.{All}
use Rattle.std.proofs.lemmas.List.{get_or_append_left}
use Rattle.std.proofs.lemmas.List.Elements.{All-head, All-tail, All-get_or, All-weaker}
use Rattle.cr_base.specs.declared.token.Name.{Name}
use Rattle.cr_base.specs.declared.token.PpTok.{PpTok}
use Rattle.cr_expand.specs.declared.held.Held.{Held}
use Rattle.cr_macros.specs.Tokens.{Text, token_of}
use Rattle.cr_macros.specs.Definition.{text_of}
use Rattle.cr_expand.specs.HideSets.{Sets, set_at, Grows}
use Rattle.cr_expand.specs.declared.notes.Notes.{Notes}
use Rattle.cr_expand.specs.Held.{watch_of, hidden, held, all_held, all_args, IsNamed, IsKnown, AreKnown, AreTables}

pub longer : {A : Type 0} (xs ys : List A) → Grows xs ys → length xs ≤ length ys
longer xs ys g = let a = ap length g.1 in let b = length-append xs g.0 in omega (arith, a, b)

pub name_kept : (names new : List Text) (n : Name) → Grows names new → IsNamed names n → text_of new n ≡ text_of names n
name_kept names new n g h = ap (λ l. get_or l n.0 []) g.1 ∙ get_or_append_left names g.0 [] n.0 h

pub named_later : (names new : List Text) (n : Name) → Grows names new → IsNamed names n → IsNamed new n
named_later names new n g h = let l = longer names new g in omega (arith, h, l)

pub names_kept : (names new : List Text) (ns : List Name) → Grows names new → All (IsNamed names) ns → map (text_of new) ns ≡ map (text_of names) ns
names_kept names new [] g h = refl
names_kept names new (n ∷ ns) g h =
    ap (λ t. t ∷ map (text_of new) ns) (name_kept names new n g (All-head (IsNamed names) n ns h))
    ∙ ap (λ l. text_of names n ∷ l) (names_kept names new ns g (All-tail (IsNamed names) n ns h))

pub hidden_kept : (names new : List Text) (sets more : Sets) (n : ℕ) → Grows names new → Grows sets more → All (All (IsNamed names)) sets → n < length sets → hidden new more n ≡ hidden names sets n
hidden_kept names new sets more n g k h l =
    ap (λ s. map (text_of new) (get_or s n [])) k.1
    ∙ ap (map (text_of new)) (get_or_append_left sets k.0 [] n l)
    ∙ names_kept names new (set_at sets n) g (All-get_or (All (IsNamed names)) sets n [] l h)

pub token_kept : (names new : List Text) (hide : List Text) (t : PpTok) → Grows names new → IsNamed names t.text → token_of new hide t ≡ token_of names hide t
token_kept names new hide t g h =
    ap {A = Text} (λ x. record { kind = t.kind; text = x; origin = t.origin; site = t.site; line = t.line; end = t.end; space = t.space; first = t.first; joined = t.joined; hide = hide }) (name_kept names new t.text g h)

pub held_kept : (names new : List Text) (sets more : Sets) (h : Held) → Grows names new → Grows sets more → All (All (IsNamed names)) sets → IsKnown names sets h → held new more h ≡ held names sets h
held_kept names new sets more h g k a l =
    ap (λ s. token_of new s h.token) (hidden_kept names new sets more h.hide.0 g k a l.1)
    ∙ token_kept names new (hidden names sets h.hide.0) h.token g l.0

pub all_held_kept : (names new : List Text) (sets more : Sets) (hs : List Held) → Grows names new → Grows sets more → All (All (IsNamed names)) sets → AreKnown names sets hs → all_held new more hs ≡ all_held names sets hs
all_held_kept names new sets more [] g k a l = refl
all_held_kept names new sets more (h ∷ hs) g k a l =
    ap (λ t. t ∷ all_held new more hs) (held_kept names new sets more h g k a (All-head (IsKnown names sets) h hs l))
    ∙ ap (λ ts. held names sets h ∷ ts) (all_held_kept names new sets more hs g k a (All-tail (IsKnown names sets) h hs l))

pub all_args_kept : (names new : List Text) (sets more : Sets) (args : List (List Held)) → Grows names new → Grows sets more → All (All (IsNamed names)) sets → All (AreKnown names sets) args → all_args new more args ≡ all_args names sets args
all_args_kept names new sets more [] g k a l = refl
all_args_kept names new sets more (x ∷ xs) g k a l =
    ap (λ t. t ∷ all_args new more xs) (all_held_kept names new sets more x g k a (All-head (AreKnown names sets) x xs l))
    ∙ ap (λ ts. all_held names sets x ∷ ts) (all_args_kept names new sets more xs g k a (All-tail (AreKnown names sets) x xs l))

pub known_later : (names new : List Text) (sets more : Sets) (h : Held) → Grows names new → Grows sets more → IsKnown names sets h → IsKnown new more h
known_later names new sets more h g k l = let a = longer names new g in let b = longer sets more k in (omega (arith, a, l.0), omega (arith, b, l.1))

pub all_known_later : (names new : List Text) (sets more : Sets) (hs : List Held) → Grows names new → Grows sets more → AreKnown names sets hs → AreKnown new more hs
all_known_later names new sets more hs g k l = All-weaker (IsKnown names sets) (IsKnown new more) (λ h. known_later names new sets more h g k) hs l

pub args_known_later : (names new : List Text) (sets more : Sets) (args : List (List Held)) → Grows names new → Grows sets more → All (AreKnown names sets) args → All (AreKnown new more) args
args_known_later names new sets more args g k l = All-weaker (AreKnown names sets) (AreKnown new more) (λ hs. all_known_later names new sets more hs g k) args l

pub sets_named_later : (names new : List Text) (sets : Sets) → Grows names new → All (All (IsNamed names)) sets → All (All (IsNamed new)) sets
sets_named_later names new sets g l = All-weaker (All (IsNamed names)) (All (IsNamed new)) (λ ns. All-weaker (IsNamed names) (IsNamed new) (λ n. named_later names new n g) ns) sets l

pub watch_kept : (names new : List Text) (a b : Notes) → Grows names new → IsNamed names a.from × IsNamed names a.to → b.from ≡ a.from → b.to ≡ a.to → watch_of new b ≡ watch_of names a
watch_kept names new a b g n e f =
    ap {A = Text} (λ x. record { from = x; to = text_of new b.to }) (ap (text_of new) e ∙ name_kept names new a.from g n.0)
    ∙ ap {A = Text} (λ x. record { from = text_of names a.from; to = x }) (ap (text_of new) f ∙ name_kept names new a.to g n.1)

pub interned_grows : (b : Bool) (names new : List Text) (t : Text) → new ≡ (if b then names else names ++ t ∷ []) → Grows names new
interned_grows true names new t e = ([], e ∙ sym (append-nil names))
interned_grows false names new t e = (t ∷ [], e)

pub tables_later : (names new : List Text) (sets more : Sets) → AreTables names sets → Grows names new → Grows sets more → IsDistinct new → All (All (IsNamed new)) more → AreTables new more
tables_later names new sets more t g k d n =
    let l = longer sets more k in
    record {
      distinct = d;
      named = n;
      first = ap (λ s. get_or s 0 []) k.1 ∙ get_or_append_left sets k.0 [] 0 t.some ∙ t.first;
      some = omega (arith, l, t.some);
    }
