-- What the symbols spell is read.
use Rattle.std.proofs.Common.{◌≡◌, ℕ, zero, suc, ◌-◌, ◌≤◌, ◌<◌, Bool, true, false, cond, List, [], ◌∷◌, ◌++◌, length, refl, ap, sym, ◌∙◌, subst, arith, Some, None, Option, append-nil, length-append}
use Rattle.std.specs.Prelude.{◌==◌, ◌&&◌}
use Rattle.std.proofs.lemmas.Bool.Decides.{nat_tests}
use Rattle.cr_cond.specs.declared.symbol.Value.{Value}
use Rattle.cr_cond.specs.declared.symbol.Sign.{Sign}
use Rattle.cr_cond.specs.declared.symbol.Op.{Op}
use Rattle.cr_cond.specs.declared.symbol.Op.TheVariants.{Or, And, BitOr, BitXor, BitAnd, Equal, Unequal, Less, Greater, AtMost, AtLeast, Left, Right, Add, Subtract, Times, Divide, Remainder}
use Rattle.cr_cond.specs.declared.symbol.Symbol.{Symbol}
use Rattle.cr_cond.specs.declared.symbol.Symbol.TheVariants.{Operand, Prefix, Infix, Question, Colon, Open, Close, Odd}
use Rattle.cr_cond.specs.Symbols.{looseness}
use Rattle.cr_cond.specs.Reading.{Tree, Binary, depth_behind, into, parted_at, is_question, is_colon, Parts, into_head, part_at, is_as_loose, parts, both_trees, joined, up_to_close, signed, bound, choice, conditional, read_within}
use Rattle.cr_cond.specs.Grammar.{IsComplete, Spells, leaf, sign, brackets, binary, chosen, looser}

-- from one depth to another, with no symbol outside brackets that passes the test
abbrev Quiet : (Symbol → Bool) → ℕ → List Symbol → ℕ → Type 0
Quiet test d [] e = d ≡ e
Quiet test d (x ∷ xs) e = ((d == 0 && test x) ≡ false) × Quiet test (depth_behind d x) xs e

quiet_append : (test : Symbol → Bool) (xs ys : List Symbol) (d e f : ℕ) → Quiet test d xs e → Quiet test e ys f → Quiet test d (xs ++ ys) f
quiet_append test [] ys d e f h k = subst (λ z. Quiet test z ys f) (sym h) k
quiet_append test (x ∷ xs) ys d e f h k = (h.0, quiet_append test xs ys (depth_behind d x) e f h.1 k)

abbrev heads : List Symbol → Parts → Parts
heads xs ps = record ps { head = xs ++ ps.head }

quiet_part : (x : Symbol) (ps : Parts) (b : Bool) → b ≡ false → part_at b x ps ≡ into_head x ps
quiet_part x ps b e = ap (λ z. part_at z x ps) e

quiet_parts : (n d e : ℕ) (xs ys : List Symbol) → Quiet (is_as_loose n) d xs e → parts n d (xs ++ ys) ≡ heads xs (parts n e ys)
quiet_parts n d e [] ys h = ap (λ z. parts n z ys) h
quiet_parts n d e (x ∷ xs) ys h =
    quiet_part x (parts n (depth_behind d x) (xs ++ ys)) (d == 0 && is_as_loose n x) h.0 ∙ ap (into_head x) (quiet_parts n (depth_behind d x) e xs ys h.1)

abbrev intos : List Symbol → Option (List Symbol × List Symbol) → Option (List Symbol × List Symbol)
intos xs None = None
intos xs (Some p) = Some (xs ++ p.0, p.1)

into_intos : (x : Symbol) (xs : List Symbol) (o : Option (List Symbol × List Symbol)) → into x (intos xs o) ≡ intos (x ∷ xs) o
into_intos x xs None = refl
into_intos x xs (Some p) = refl

no_intos : (o : Option (List Symbol × List Symbol)) → o ≡ intos [] o
no_intos None = refl
no_intos (Some p) = refl

quiet_parted : (test : Symbol → Bool) (d e : ℕ) (xs ys : List Symbol) → Quiet test d xs e → parted_at test d (xs ++ ys) ≡ intos xs (parted_at test e ys)
quiet_parted test d e [] ys h = ap (λ z. parted_at test z ys) h ∙ no_intos (parted_at test e ys)
quiet_parted test d e (x ∷ xs) ys h =
    ap (λ b. cond b (Some ([], xs ++ ys)) (into x (parted_at test (depth_behind d x) (xs ++ ys)))) h.0
    ∙ ap (into x) (quiet_parted test (depth_behind d x) e xs ys h.1) ∙ into_intos x xs (parted_at test e ys)

inside : (d : ℕ) (b : Bool) → (suc d == 0 && b) ≡ false
inside d b = ap (λ z. z && b) (let e : (suc d == 0) ≡ false = grind (arith, nat_tests) in e)

back : (d : ℕ) → suc d - 1 ≡ d
back d = omega arith

-- inside brackets everything is quiet
quiet_inside : (test : Symbol → Bool) (d n : ℕ) (t : Tree) (xs : List Symbol) → Spells n t xs → Quiet test (suc d) xs (suc d)
quiet_inside test d n t xs (leaf v) = (inside d (test (Operand v)), refl)
quiet_inside test d n t xs (sign s t1 ys h) = (inside d (test (Prefix s)), quiet_inside test d 0 t1 ys h)
quiet_inside test d n t xs (brackets t1 ys h) =
    (inside d (test Open), quiet_append test ys (Close ∷ []) (suc (suc d)) (suc (suc d)) (suc d) (quiet_inside test (suc d) 11 t1 ys h) (inside (suc d) (test Close), back (suc d)))
quiet_inside test d n t xs (binary m op a b ys zs e h k) =
    quiet_append test ys (Infix op ∷ zs) (suc d) (suc d) (suc d) (quiet_inside test d (suc m) a ys h) (inside d (test (Infix op)), quiet_inside test d m b zs k)
quiet_inside test d n t xs (chosen c a b us vs ws h k l) =
    quiet_append test us (Question ∷ (vs ++ Colon ∷ ws)) (suc d) (suc d) (suc d) (quiet_inside test d 10 c us h) (
      inside d (test Question),
      quiet_append test vs (Colon ∷ ws) (suc (suc d)) (suc (suc d)) (suc d) (quiet_inside test (suc d) 11 a vs k)
          (inside (suc d) (test Colon), subst (λ z. Quiet test z ws (suc d)) (sym (back (suc d))) (quiet_inside test d 11 b ws l)),
    )
quiet_inside test d n t xs (looser m t1 ys h) = quiet_inside test d m t1 ys h

other : (op : Op) (m k : ℕ) → looseness op ≡ suc m → suc m < k → (looseness op == k) ≡ false
other op m k e h = grind (arith, nat_tests)

same_loose : (op : Op) (m : ℕ) → looseness op ≡ suc m → (looseness op == suc m) ≡ true
same_loose op m e = grind (arith, nat_tests)

-- outside brackets, what is tighter is quiet
quiet_outside : (k n : ℕ) (t : Tree) (xs : List Symbol) → Spells n t xs → k ≤ 10 → n < k → Quiet (is_as_loose k) 0 xs 0
quiet_outside k n t xs (leaf v) b h = (refl, refl)
quiet_outside k n t xs (sign s t1 ys g) b h = (refl, quiet_outside k 0 t1 ys g b h)
quiet_outside k n t xs (brackets t1 ys g) b h =
    (refl, quiet_append (is_as_loose k) ys (Close ∷ []) 1 1 0 (quiet_inside (is_as_loose k) 0 11 t1 ys g) (inside 0 false, back 0))
quiet_outside k n t xs (binary m op a c ys zs e g q) b h =
    quiet_append (is_as_loose k) ys (Infix op ∷ zs) 0 0 0 (quiet_outside k (suc m) a ys g b h) (other op m k e h, quiet_outside k m c zs q b (omega arith))
quiet_outside k n t xs (chosen c a d us vs ws g q l) b h = absurd (omega arith)
quiet_outside k n t xs (looser m t1 ys g) b h = quiet_outside k m t1 ys g b (omega arith)

quiet_question : (n : ℕ) (t : Tree) (xs : List Symbol) → Spells n t xs → n ≤ 10 → Quiet is_question 0 xs 0
quiet_question n t xs (leaf v) h = (refl, refl)
quiet_question n t xs (sign s t1 ys g) h = (refl, quiet_question 0 t1 ys g h)
quiet_question n t xs (brackets t1 ys g) h = (refl, quiet_append is_question ys (Close ∷ []) 1 1 0 (quiet_inside is_question 0 11 t1 ys g) (inside 0 false, back 0))
quiet_question n t xs (binary m op a c ys zs e g q) h = quiet_append is_question ys (Infix op ∷ zs) 0 0 0 (quiet_question (suc m) a ys g h) (refl, quiet_question m c zs q (omega arith))
quiet_question n t xs (chosen c a d us vs ws g q l) h = absurd (omega arith)
quiet_question n t xs (looser m t1 ys g) h = quiet_question m t1 ys g (omega arith)

-- a test that no symbol but an infix or a `?` outside brackets passes
abbrev never : Symbol → Bool
never x = false

quiet_whole : (test : Symbol → Bool) → ((v : Option Value) → test (Operand v) ≡ false) → ((s : Sign) → test (Prefix s) ≡ false) → ((op : Op) → test (Infix op) ≡ false) → test Open ≡ false → test Question ≡ false
    → (n : ℕ) (t : Tree) (xs : List Symbol) → Spells n t xs → Quiet test 0 xs 0
quiet_whole test a b c d e n t xs (leaf v) = (a v, refl)
quiet_whole test a b c d e n t xs (sign s t1 ys g) = (b s, quiet_whole test a b c d e 0 t1 ys g)
quiet_whole test a b c d e n t xs (brackets t1 ys g) = (d, quiet_append test ys (Close ∷ []) 1 1 0 (quiet_inside test 0 11 t1 ys g) (inside 0 (test Close), back 0))
quiet_whole test a b c d e n t xs (binary m op x y ys zs k g q) = quiet_append test ys (Infix op ∷ zs) 0 0 0 (quiet_whole test a b c d e (suc m) x ys g) (c op, quiet_whole test a b c d e m y zs q)
quiet_whole test a b c d e n t xs (chosen x y z us vs ws g q l) =
    quiet_append test us (Question ∷ (vs ++ Colon ∷ ws)) 0 0 0 (quiet_whole test a b c d e 10 x us g)
    (e, quiet_append test vs (Colon ∷ ws) 1 1 0 (quiet_inside test 0 11 y vs q) (inside 0 (test Colon), subst (λ k. Quiet test k ws 0) (sym (back 0)) (quiet_whole test a b c d e 11 z ws l)))
quiet_whole test a b c d e n t xs (looser m t1 ys g) = quiet_whole test a b c d e m t1 ys g

-- a list in which nothing parts
one_part : (k : ℕ) (ys : List Symbol) → Quiet (is_as_loose k) 0 ys 0 → parts k 0 ys ≡ record { head = ys; more = [] }
one_part k ys h = ap (parts k 0) (sym (append-nil ys)) ∙ quiet_parts k 0 0 ys [] h ∙ ap (λ z. record { head = z; more = [] }) (append-nil ys)

abbrev add : Parts → Op × List Symbol → Parts
add ps q = record ps { more = ps.more ++ q ∷ [] }

add_part : (b : Bool) (x : Symbol) (ps : Parts) (q : Op × List Symbol) → part_at b x (add ps q) ≡ add (part_at b x ps) q
add_part true (Infix op) ps q = refl
add_part true (Operand v) ps q = refl
add_part true (Prefix s) ps q = refl
add_part true Question ps q = refl
add_part true Colon ps q = refl
add_part true Open ps q = refl
add_part true Close ps q = refl
add_part true Odd ps q = refl
add_part false x ps q = refl

split : (k : ℕ) (op : Op) (ys : List Symbol) → (looseness op == k) ≡ true → Quiet (is_as_loose k) 0 ys 0 → (xs : List Symbol) (d : ℕ) → Quiet never d xs 0 → parts k d (xs ++ Infix op ∷ ys) ≡ add (parts k d xs) (op, ys)
split k op ys e q [] d h =
    ap (λ z. parts k z (Infix op ∷ ys)) h ∙ ap (λ b. part_at b (Infix op) (parts k 0 ys)) e ∙ ap (part_at true (Infix op)) (one_part k ys q)
split k op ys e q (x ∷ xs) d h =
    ap (part_at (d == 0 && is_as_loose k x) x) (split k op ys e q xs (depth_behind d x) h.1) ∙ add_part (d == 0 && is_as_loose k x) x (parts k (depth_behind d x) xs) (op, ys)

joined_add : (f : List Symbol → Option Tree) (ps : List (Op × List Symbol)) (left : Option Tree) (q : Op × List Symbol) → joined f left (ps ++ q ∷ []) ≡ both_trees (Binary q.0) (joined f left ps) (f q.1)
joined_add f [] left q = refl
joined_add f (p ∷ ps) left q = joined_add f ps (both_trees (Binary p.0) left (f p.1)) q

up_after : (x : Symbol) (xs : List Symbol) → up_to_close (xs ++ Close ∷ []) ≡ Some xs → elim (up_to_close (xs ++ Close ∷ [])) as (λ _. Option (List Symbol)) [ None ↦ None | Some ys ↦ Some (x ∷ ys) ] ≡ Some (x ∷ xs)
up_after x xs e = ap (λ o. elim o as (λ _. Option (List Symbol)) [ None ↦ None | Some ys ↦ Some (x ∷ ys) ]) e

up_close : (xs : List Symbol) → up_to_close (xs ++ Close ∷ []) ≡ Some xs
up_close [] = refl
up_close (Close ∷ []) = refl
up_close (Close ∷ y ∷ ys) = up_after Close (y ∷ ys) (up_close (y ∷ ys))
up_close (Operand v ∷ xs) = up_after (Operand v) xs (up_close xs)
up_close (Prefix s ∷ xs) = up_after (Prefix s) xs (up_close xs)
up_close (Infix op ∷ xs) = up_after (Infix op) xs (up_close xs)
up_close (Question ∷ xs) = up_after Question xs (up_close xs)
up_close (Colon ∷ xs) = up_after Colon xs (up_close xs)
up_close (Open ∷ xs) = up_after Open xs (up_close xs)
up_close (Odd ∷ xs) = up_after Odd xs (up_close xs)

abbrev joined_parts : (List Symbol → Option Tree) → Parts → Option Tree
joined_parts f ps = joined f (f ps.head) ps.more

module _ (whole : List Symbol → Option Tree) (most : ℕ) (w : (ys : List Symbol) (t : Tree) → length ys < most → Spells 11 t ys → whole ys ≡ Some t) where
  bound_complete : (n : ℕ) (t : Tree) (xs : List Symbol) → Spells n t xs → length xs ≤ most → n ≤ 10 → bound whole n xs ≡ Some t
  bound_complete n t xs (leaf v) h b = refl
  bound_complete n t xs (sign s t1 ys g) h b = ap (signed s) (bound_complete 0 t1 ys g (omega arith) (omega arith))
  bound_complete n t xs (brackets t1 ys g) h b =
      ap (λ o. elim o as (λ _. Option Tree) [ None ↦ None | Some zs ↦ whole zs ]) (up_close ys) ∙ w ys t1 (omega (arith, length-append ys (Close ∷ []))) g
  bound_complete n t xs (binary m op a c ys zs e g q) h b =
      ap (joined_parts (bound whole m)) (split (suc m) op zs (same_loose op m e) (quiet_outside (suc m) m c zs q b (omega arith)) ys 0 (quiet_whole never (λ v. refl) (λ s. refl) (λ o. refl) refl refl (suc m) a ys g))
      ∙ joined_add (bound whole m) (parts (suc m) 0 ys).more (bound whole m (parts (suc m) 0 ys).head) (op, zs)
      ∙ ap (λ o. both_trees (Binary op) o (bound whole m zs)) (bound_complete (suc m) a ys g (omega (arith, length-append ys (Infix op ∷ zs))) b)
      ∙ ap (both_trees (Binary op) (Some a)) (bound_complete m c zs q (omega (arith, length-append ys (Infix op ∷ zs))) (omega arith))
  bound_complete n t xs (chosen c a d us vs ws g q l) h b = absurd (omega arith)
  bound_complete n t xs (looser m t1 ys g) h b =
      ap (joined_parts (bound whole m)) (one_part (suc m) ys (quiet_outside (suc m) m t1 ys g b (omega arith))) ∙ bound_complete m t1 ys g h (omega arith)

  abbrev by_colon : List Symbol → Option (List Symbol × List Symbol) → Option Tree
  by_colon test o = elim o [ None ↦ None | Some (yes1, no1) ↦ choice (bound whole 10 test) (whole yes1) (whole no1) ]

  abbrev by_question : List Symbol → Option (List Symbol × List Symbol) → Option Tree
  by_question xs o = elim o [ None ↦ bound whole 10 xs | Some (test, rest) ↦ by_colon test (parted_at is_colon 0 rest) ]

  first_question : (us rest : List Symbol) → Quiet is_question 0 us 0 → parted_at is_question 0 (us ++ Question ∷ rest) ≡ Some (us, rest)
  first_question us rest q = quiet_parted is_question 0 0 us (Question ∷ rest) q ∙ ap (λ z. Some (z, rest)) (append-nil us)

  first_colon : (us rest : List Symbol) → Quiet is_colon 0 us 0 → parted_at is_colon 0 (us ++ Colon ∷ rest) ≡ Some (us, rest)
  first_colon us rest q = quiet_parted is_colon 0 0 us (Colon ∷ rest) q ∙ ap (λ z. Some (z, rest)) (append-nil us)

  no_question : (xs : List Symbol) → Quiet is_question 0 xs 0 → parted_at is_question 0 xs ≡ None
  no_question xs q = ap (parted_at is_question 0) (sym (append-nil xs)) ∙ quiet_parted is_question 0 0 xs [] q

  loose_at_most : (op : Op) → looseness op ≤ 10
  loose_at_most Or = omega arith
  loose_at_most And = omega arith
  loose_at_most BitOr = omega arith
  loose_at_most BitXor = omega arith
  loose_at_most BitAnd = omega arith
  loose_at_most Equal = omega arith
  loose_at_most Unequal = omega arith
  loose_at_most Less = omega arith
  loose_at_most Greater = omega arith
  loose_at_most AtMost = omega arith
  loose_at_most AtLeast = omega arith
  loose_at_most Left = omega arith
  loose_at_most Right = omega arith
  loose_at_most Add = omega arith
  loose_at_most Subtract = omega arith
  loose_at_most Times = omega arith
  loose_at_most Divide = omega arith
  loose_at_most Remainder = omega arith

  conditional_complete : (n : ℕ) (t : Tree) (xs : List Symbol) → Spells n t xs → n ≡ 11 → length xs ≤ most → conditional whole xs ≡ Some t
  conditional_complete n t xs (leaf v) e h = absurd (omega arith)
  conditional_complete n t xs (sign s t1 ys g) e h = absurd (omega arith)
  conditional_complete n t xs (brackets t1 ys g) e h = absurd (omega arith)
  conditional_complete n t xs (binary m op a c ys zs k g q) e h = absurd (omega (arith, loose_at_most op))
  conditional_complete n t xs (chosen c a d us vs ws g q l) e h =
      ap (by_question (us ++ Question ∷ (vs ++ Colon ∷ ws))) (first_question us (vs ++ Colon ∷ ws) (quiet_question 10 c us g (omega arith)))
      ∙ ap (by_colon us) (first_colon vs ws (quiet_whole is_colon (λ v. refl) (λ s. refl) (λ o. refl) refl refl 11 a vs q))
      ∙ ap (λ o. choice o (whole vs) (whole ws)) (bound_complete 10 c us g (omega (arith, length-append us (Question ∷ (vs ++ Colon ∷ ws)))) (omega arith))
      ∙ ap (λ o. choice (Some c) o (whole ws)) (w vs a (omega (arith, length-append us (Question ∷ (vs ++ Colon ∷ ws)), length-append vs (Colon ∷ ws))) q)
      ∙ ap (choice (Some c) (Some a)) (w ws d (omega (arith, length-append us (Question ∷ (vs ++ Colon ∷ ws)), length-append vs (Colon ∷ ws))) l)
  conditional_complete n t xs (looser m t1 ys g) e h =
      ap (by_question ys) (no_question ys (quiet_question m t1 ys g (omega arith)))
      ∙ subst (λ k. bound whole k ys ≡ Some t1) (let k : m ≡ 10 = omega arith in k) (bound_complete m t1 ys g h (omega arith))

not_empty : (n : ℕ) (t : Tree) (xs : List Symbol) → Spells n t xs → 0 < length xs
not_empty n t xs (leaf v) = omega arith
not_empty n t xs (sign s t1 ys g) = omega arith
not_empty n t xs (brackets t1 ys g) = omega arith
not_empty n t xs (binary m op a c ys zs e g q) = omega (arith, length-append ys (Infix op ∷ zs))
not_empty n t xs (chosen c a d us vs ws g q l) = omega (arith, length-append us (Question ∷ (vs ++ Colon ∷ ws)))
not_empty n t xs (looser m t1 ys g) = not_empty m t1 ys g

complete_within : (m : ℕ) (xs : List Symbol) (t : Tree) → length xs ≤ m → Spells 11 t xs → read_within m xs ≡ Some t
complete_within zero xs t h g = absurd (omega (arith, not_empty 11 t xs g))
complete_within (suc m) xs t h g =
    conditional_complete (read_within m) (length xs) (λ ys u k l. complete_within m ys u (omega arith) l) 11 t xs g refl (omega arith)

-- what the symbols spell is what is read
pub complete : IsComplete
complete xs t g = complete_within (length xs) xs t (omega arith) g
