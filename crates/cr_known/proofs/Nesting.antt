-- The open nodes after an action, and after the end of a node.
use Rattle.std.proofs.Common.{◌≡◌, ℕ, ◌+◌, ◌-◌, ◌≤◌, Bool, true, false, if◌then◌else◌, List, [], ◌∷◌, ◌++◌, length, take, drop, reverse, refl, sym, ap, subst, ◌∙◌, arith}
use Rattle.std.specs.Prelude.{slice_range}
use Rattle.std.proofs.lemmas.List.{append-nil, reverse-append, drop-append-le, take-append-le, drop-take, take-append-drop, length-drop, length-take-le}
use Rattle.cr_grammar.specs.declared.symbols.Action.{Action}
use Rattle.cr_grammar.specs.declared.symbols.Action.TheVariants as a
use Rattle.cr_types.specs.declared.Part.{Part}
use Rattle.cr_binding.specs.Specifying.{is_declarator}
use Rattle.cr_known.specs.Shapes.{Leaves, behind}
use Rattle.cr_known.specs.Known.{with_action}
use Rattle.cr_known.specs.Nested.{Nested, nest_acted, nest_closed, nest_closed_on, part_by}
use Rattle.cr_known.specs.Kept.{framed, AreStacked, Parts, listed, parts_acted, parts_ended}
use Rattle.cr_known.specs.declared.nest.FrameRow.{FrameRow}

-- what is seen of the open nodes
abbrev pub seen : FrameRow → Bool → List FrameRow → Parts → Leaves → Nested
seen inner childless rows p closed =
    record {
      node = inner.node;
      first = inner.first;
      shape = record { parts = drop inner.start p.open_parts; leaves = inner.leaves };
      childless = childless;
      above = framed (reverse rows) inner.start p.open_parts;
      closed = record { parts = p.closed; leaves = closed };
    }

-- ---- parts of a list

slice_more : (xs ys : List Part) (i j : ℕ) → i ≤ j → j ≤ length xs → slice_range (xs ++ ys) i j ≡ slice_range xs i j
slice_more xs ys i j h k =
    let l : length (drop i xs) ≡ length xs - i = length-drop i xs in
    ap (take (j - i)) (drop-append-le i xs ys (omega arith)) ∙ take-append-le (j - i) (drop i xs) ys (omega arith)

framed_more : (fs : List FrameRow) (end : ℕ) (xs ys : List Part) → AreStacked fs end → end ≤ length xs → framed fs end (xs ++ ys) ≡ framed fs end xs
framed_more [] end xs ys h k = refl
framed_more (f ∷ fs) end xs ys h k =
    let l : f.start ≤ end = h.0 in
    let s : slice_range (xs ++ ys) f.start end ≡ slice_range xs f.start end = slice_more xs ys f.start end l k in
    let r : framed fs f.start (xs ++ ys) ≡ framed fs f.start xs = framed_more fs f.start xs ys h.1 (omega arith) in
    λ j. (record { node = f.node; first = f.first; shape = record { parts = s j; leaves = f.leaves } }) ∷ r j

framed_less : (fs : List FrameRow) (end s : ℕ) (xs : List Part) → AreStacked fs end → end ≤ s → s ≤ length xs → framed fs end (take s xs) ≡ framed fs end xs
framed_less fs end s xs h l k =
    let c : length (take s xs) ≡ s = length-take-le s xs k in
    sym (framed_more fs end (take s xs) (drop s xs) h (omega arith)) ∙ ap (framed fs end) (take-append-drop s xs)

whole_slice : (xs : List Part) (i j : ℕ) → i ≤ j → j ≤ length xs → drop i xs ≡ slice_range xs i j ++ drop j xs
whole_slice xs i j h k =
    let c : length (take j xs) ≡ j = length-take-le j xs k in
    let e : i + (j - i) ≡ j = omega arith in
    sym (ap (drop i) (take-append-drop j xs))
    ∙ drop-append-le i (take j xs) (drop j xs) (omega arith)
    ∙ ap (λ z. drop i (take z xs) ++ drop j xs) (sym e)
    ∙ ap (λ z. z ++ drop j xs) (drop-take i (j - i) xs)

parts_end : (b : Bool) (xs : List Part) (i j : ℕ) → i ≤ j → j ≤ length xs → drop i (if b then xs else take j xs) ≡ slice_range xs i j ++ (if b then drop j xs else [])
parts_end true xs i j h k = whole_slice xs i j h k
parts_end false xs i j h k =
    let e : i + (j - i) ≡ j = omega arith in
    ap (λ z. drop i (take z xs)) (sym e) ∙ drop-take i (j - i) xs ∙ sym (append-nil (slice_range xs i j))

frames_end : (b : Bool) (fs : List FrameRow) (end j : ℕ) (xs : List Part) → AreStacked fs end → end ≤ j → j ≤ length xs → framed fs end (if b then xs else take j xs) ≡ framed fs end xs
frames_end true fs end j xs h l k = refl
frames_end false fs end j xs h l k = framed_less fs end j xs h l k

-- ---- an action

acts_by_part : (x : Action) (ps : List Part) (l : Leaves) → with_action x (record { parts = ps; leaves = l }) ≡ record { parts = ps ++ listed (part_by x); leaves = l }
acts_by_part a.Pointer ps l = refl
acts_by_part a.Array ps l = refl
acts_by_part a.Leave ps l = refl
acts_by_part _ ps l = (let e : ps ++ [] ≡ ps = append-nil ps in sym (λ j. record { parts = e j; leaves = l }))

pub acted : (inner : FrameRow) (childless : Bool) (rows : List FrameRow) (p q : Parts) (closed : Leaves) (x : Action)
    → inner.start ≤ length p.open_parts → AreStacked (reverse rows) inner.start → q ≡ parts_acted x p
    → seen inner false rows q closed ≡ nest_acted x (seen inner childless rows p closed)
acted inner childless rows p q closed x lt stacked e =
    let parts : drop inner.start (p.open_parts ++ listed (part_by x)) ≡ drop inner.start p.open_parts ++ listed (part_by x) = drop-append-le inner.start p.open_parts (listed (part_by x)) lt in
    let shape : record { parts = drop inner.start (p.open_parts ++ listed (part_by x)); leaves = inner.leaves } ≡ with_action x (record { parts = drop inner.start p.open_parts; leaves = inner.leaves }) =
    (λ j. record { parts = parts j; leaves = inner.leaves }) ∙ sym (acts_by_part x (drop inner.start p.open_parts) inner.leaves) in
    let above : framed (reverse rows) inner.start (p.open_parts ++ listed (part_by x)) ≡ framed (reverse rows) inner.start p.open_parts = framed_more (reverse rows) inner.start p.open_parts (listed (part_by x)) stacked lt in
    ap (λ z. seen inner false rows z closed) e
    ∙ (λ j. record {
      node = inner.node;
      first = inner.first;
      shape = shape j;
      childless = false;
      above = above j;
      closed = record { parts = p.closed; leaves = closed };
    })

-- ---- the end of a node

pub closed_nest : (inner upper : FrameRow) (childless : Bool) (rows rows' : List FrameRow) (p q : Parts) (closed l : Leaves)
    → rows ≡ rows' ++ upper ∷ [] → inner.start ≤ length p.open_parts → AreStacked (reverse rows) inner.start
    → q ≡ parts_ended (is_declarator inner.node) inner.start p → l ≡ behind upper.leaves inner.leaves
    → seen (record { node = upper.node; first = upper.first; start = upper.start; leaves = l }) false rows' q inner.leaves ≡ nest_closed (seen inner childless rows p closed)
closed_nest inner upper childless rows rows' p q closed l split lt stacked e same =
    let turned : reverse rows ≡ upper ∷ reverse rows' = ap reverse split ∙ reverse-append rows' (upper ∷ []) in
    let all : AreStacked (upper ∷ reverse rows') inner.start = subst (λ z. AreStacked z inner.start) turned stacked in
    let begins : upper.start ≤ inner.start = all.0 in
    let parts : drop upper.start (if is_declarator inner.node then p.open_parts else take inner.start p.open_parts)
    ≡ slice_range p.open_parts upper.start inner.start ++ (if is_declarator inner.node then drop inner.start p.open_parts else []) =
    parts_end (is_declarator inner.node) p.open_parts upper.start inner.start begins lt in
    let above : framed (reverse rows') upper.start (if is_declarator inner.node then p.open_parts else take inner.start p.open_parts) ≡ framed (reverse rows') upper.start p.open_parts =
    frames_end (is_declarator inner.node) (reverse rows') upper.start inner.start p.open_parts all.1 begins lt in
    ap (λ z. seen (record { node = upper.node; first = upper.first; start = upper.start; leaves = l }) false rows' z inner.leaves) e
    ∙ (λ j. record {
      node = upper.node;
      first = upper.first;
      shape = record { parts = parts j; leaves = same j };
      childless = false;
      above = above j;
      closed = record { parts = drop inner.start p.open_parts; leaves = inner.leaves };
    })
    ∙ ap (λ z. nest_closed_on (seen inner childless rows p closed) (framed z inner.start p.open_parts)) (sym turned)
