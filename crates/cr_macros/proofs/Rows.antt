-- Worked examples, computed: those of C11 6.10.3.5 and of this project's own rules.
use Rattle.std.specs.Prelude.{◌≡◌, ℕ, suc, zero, ◌+◌, ◌-◌, Bool, true, false, if◌then◌else◌, List, [], ◌∷◌, ◌++◌, map, length, take, codes, bytes_eq, Option, Some, None, refl, flat_map}
use Rattle.cr_base.specs.declared.token.PpKind.{PpKind}
use Rattle.cr_base.specs.declared.token.Place.{Place}
use Rattle.cr_base.specs.declared.token.Origin.TheVariants.{At}
use Rattle.cr_base.specs.declared.cause.Role.TheVariants.{MacroName, Stringized, Pasted, Dropped}
use Rattle.cr_macros.specs.OneToken.{one_token, is_punctuator, punctuators, is_white}
use Rattle.cr_macros.specs.Tokens.{Text, Token, MacroText, Event, Rule, Taken, Cause, ArgCount, OpenCall, BadPaste, Over, Answer, Gave, Stopped}
use Rattle.cr_macros.specs.Expansion.{Table, expand}

abbrev at : ℕ → Place
at offset = record { path = record { 0 = 0 }; offset = offset }

-- the longest front of the text, at most n long, that is one token
abbrev longest : ℕ → Text → Option (ℕ × PpKind)
longest zero text = None
longest (suc n) text = elim (one_token (take (suc n) text)) [ None ↦ longest n text | Some kind ↦ Some (suc n, kind) ]

-- the tokens of a text without comments, joins and line feeds, of which `skip` bytes belong to the token before
abbrev cut : Bool → ℕ → ℕ → Text → List Token
cut space skip offset [] = []
cut space (suc skip) offset (b ∷ bs) = cut space skip (suc offset) bs
cut space zero offset (b ∷ bs) =
    if is_white b then cut true zero (suc offset) bs
    else elim (longest (length (b ∷ bs)) (b ∷ bs)) [
      | None ↦ []
      | Some (n, kind) ↦ record {
        kind = kind;
        text = take n (b ∷ bs);
        origin = At (at offset);
        site = at offset;
        line = 1;
        end = offset + n;
        space = space;
        first = false;
        joined = false;
        hide = [];
      } ∷ cut false (n - 1) (suc offset) bs
    ]

abbrev toks : Text → List Token
toks = cut true zero zero

abbrev lookup : List (Text × MacroText) → Text → Option MacroText
lookup [] name = None
lookup (p ∷ ps) name = if bytes_eq p.0 name then Some p.1 else lookup ps name

abbrev table : List (Text × MacroText) → Table
table ps = record { macro = lookup ps; file = codes "\"a.c\"" }

-- the texts that are given, with a blank before one that has white space before it, and the work
abbrev shown : ℕ → Answer (List Token) → Option (List Text × ℕ)
shown n (Stopped cause events) = None
shown n (Gave ts left events) = Some (map {A = Token} (λ t. (if t.space then 32 ∷ [] else []) ++ t.text) ts, n - left)

-- why it stopped
abbrev stop_of : Answer (List Token) → Option Cause
stop_of (Gave ts left events) = None
stop_of (Stopped cause events) = Some cause

abbrev run : List (Text × MacroText) → Text → Option (List Text × ℕ)
unfolding expand is_punctuator punctuators
run ps bytes = shown 100 (expand (table ps) (toks bytes) 100)

abbrev like : Text → List Text → Bool → Text → Text × MacroText
like name params variadic body = (name, record { params = Some params; variadic = variadic; body = toks body })

abbrev object : Text → Text → Text × MacroText
object name body = (name, record { params = None; variadic = false; body = toks body })

-- two macros that name each other: the tokens of the second call are those behind the first
abbrev each_other : List (Text × MacroText)
each_other = like (codes "f") (codes "a" ∷ []) false (codes "a*g") ∷ like (codes "g") (codes "a" ∷ []) false (codes "f(a)") ∷ []

each_other_once : run each_other (codes "f(2)(9)") ≡ Some (codes " 2" ∷ codes "*" ∷ codes "9" ∷ codes "*" ∷ codes "g" ∷ [], 13)
unfolding expand is_punctuator punctuators
each_other_once = refl

work_of_12_is_too_little : stop_of (expand (table each_other) (toks (codes "f(2)(9)")) 12) ≡ Some Over
unfolding expand is_punctuator punctuators
work_of_12_is_too_little = refl

-- one blank inside, none at the ends, and backslashes in a string's spelling
abbrev stringize : List (Text × MacroText)
stringize = like (codes "S") (codes "x" ∷ []) false (codes "#x") ∷ []

string_of_an_argument : run stringize (codes "S( a  \"b\\n\" )") ≡ Some (codes " \"a \\\"b\\\\n\\\"\"" ∷ [], 2)
unfolding expand is_punctuator punctuators
string_of_an_argument = refl

a_backslash_is_no_string : stop_of (expand (table stringize) (toks (codes "S(\\)")) 100) ≡ Some (BadPaste (at 0))
unfolding expand is_punctuator punctuators
a_backslash_is_no_string = refl

-- the comma goes with an empty variable argument, and stays without a paste before another
abbrev comma_rest : List (Text × MacroText)
comma_rest = like (codes "E") (codes "f" ∷ []) true (codes "p(f, ## __VA_ARGS__)") ∷ []

the_comma_goes : run comma_rest (codes "E(1)") ≡ Some (codes " p" ∷ codes "(" ∷ codes "1" ∷ codes ")" ∷ [], 5)
unfolding expand is_punctuator punctuators
the_comma_goes = refl

the_comma_stays : run comma_rest (codes "E(1,2)") ≡ Some (codes " p" ∷ codes "(" ∷ codes "1" ∷ codes "," ∷ codes " 2" ∷ codes ")" ∷ [], 7)
unfolding expand is_punctuator punctuators
the_comma_stays = refl

abbrev concat : List (Text × MacroText)
concat = like (codes "C") (codes "a" ∷ codes "b" ∷ []) false (codes "a##b") ∷ []

an_arrow_is_pasted : run concat (codes "C(-,>)") ≡ Some (codes " ->" ∷ [], 2)
unfolding expand is_punctuator punctuators
an_arrow_is_pasted = refl

no_token_is_pasted : stop_of (expand (table concat) (toks (codes "C(+,/)")) 100) ≡ Some (BadPaste (at 0))
unfolding expand is_punctuator punctuators
no_token_is_pasted = refl

one_argument_is_missing : stop_of (expand (table concat) (toks (codes "C(1)")) 100) ≡ Some (ArgCount (at 0))
unfolding expand is_punctuator punctuators
one_argument_is_missing = refl

a_parenthesis_is_missing : stop_of (expand (table concat) (toks (codes "C(1")) 100) ≡ Some (OpenCall (at 0))
unfolding expand is_punctuator punctuators
a_parenthesis_is_missing = refl

-- what is hidden from a pasted token is hidden from both its parts: `ab` made by `C` is the macro `ab`
made_names_expand : run (object (codes "ab") (codes "1") ∷ concat) (codes "C(a,b)") ≡ Some (codes " 1" ∷ [], 4)
unfolding expand is_punctuator punctuators
made_names_expand = refl

-- `()` is no argument, or one that is empty
one_empty_argument : run (like (codes "f") [] true (codes "<__VA_ARGS__>") ∷ []) (codes "f()") ≡ Some (codes " <" ∷ codes ">" ∷ [], 3)
unfolding expand is_punctuator punctuators
one_empty_argument = refl

a_version_and_the_file : run [] (codes "__STDC_VERSION__ __FILE__") ≡ Some (codes " 201112L" ∷ codes " \"a.c\"" ∷ [], 4)
unfolding expand is_punctuator punctuators
a_version_and_the_file = refl

-- calls inside arguments, none of which has paid yet, are nested deeper than the work that is left
a_cause_inside_comes_first : stop_of (expand (table (like (codes "I") (codes "x" ∷ []) false (codes "x") ∷ concat)) (toks (codes "I(I(I(I(C(+,/)))))")) 1) ≡ Some (BadPaste (at 8))
unfolding expand is_punctuator punctuators
a_cause_inside_comes_first = refl

abbrev texts : Answer (List Token) → Option Text
texts (Stopped cause events) = None
texts (Gave ts left events) = Some (flat_map (λ t. t.text) ts)

-- C11 6.10.3.5, EXAMPLE 3
abbrev example_3 : List (Text × MacroText)
example_3 =
    object (codes "x") (codes "2") ∷ like (codes "f") (codes "a" ∷ []) false (codes "f(x * (a))") ∷ object (codes "g") (codes "f") ∷ object (codes "z") (codes "z[0]")
    ∷ object (codes "h") (codes "g(~") ∷ like (codes "m") (codes "a" ∷ []) false (codes "a(w)") ∷ object (codes "w") (codes "0,1") ∷ like (codes "t") (codes "a" ∷ []) false (codes "a")
    ∷ like (codes "p") [] false (codes "int") ∷ like (codes "q") (codes "x" ∷ []) false (codes "x") ∷ like (codes "r") (codes "x" ∷ codes "y" ∷ []) false (codes "x ## y")
    ∷ like (codes "str") (codes "x" ∷ []) false (codes "# x") ∷ []

example_3_first : texts (expand (table example_3) (toks (codes "f(y+1) + f(f(z)) % t(t(g)(0) + t)(1);")) 1000) ≡ Some (codes "f(2*(y+1))+f(2*(f(2*(z[0]))))%f(2*(0))+t(1);")
unfolding expand is_punctuator punctuators
example_3_first = refl

example_3_second : texts (expand (table example_3) (toks (codes "g(x+(3,4)-w) | h 5) & m (f)^m(m);")) 1000) ≡ Some (codes "f(2*(2+(3,4)-0,1))|f(2*(~5))&f(2*(0,1))^m(0,1);")
unfolding expand is_punctuator punctuators
example_3_second = refl

example_3_third : texts (expand (table example_3) (toks (codes "p() i[q()] = { q(1), r(2,3), r(4,), r(,5), r(,) };")) 1000) ≡ Some (codes "inti[]={1,23,4,5,};")
unfolding expand is_punctuator punctuators
example_3_third = refl

example_3_fourth : texts (expand (table example_3) (toks (codes "char c[2][6] = { str(hello), str() };")) 1000) ≡ Some (codes "charc[2][6]={\"hello\",\"\"};")
unfolding expand is_punctuator punctuators
example_3_fourth = refl

-- C11 6.10.3.3, its EXAMPLE: `##` that `# ## #` makes is no operator
abbrev hashes : List (Text × MacroText)
hashes =
    object (codes "hash_hash") (codes "# ## #") ∷ like (codes "mkstr") (codes "a" ∷ []) false (codes "# a") ∷ like (codes "in_between") (codes "a" ∷ []) false (codes "mkstr(a)")
    ∷ like (codes "join") (codes "c" ∷ codes "d" ∷ []) false (codes "in_between(c hash_hash d)") ∷ []

a_made_paste_is_no_operator : run hashes (codes "join(x, y)") ≡ Some (codes " \"x ## y\"" ∷ [], 18)
unfolding expand is_punctuator punctuators
a_made_paste_is_no_operator = refl

-- C11 6.10.3.5, EXAMPLE 5
abbrev example_5 : List (Text × MacroText)
example_5 = like (codes "t") (codes "x" ∷ codes "y" ∷ codes "z" ∷ []) false (codes "x ## y ## z") ∷ []

placemarkers_go : run example_5 (codes "t(1,2,3) t(,4,5) t(6,,7) t(8,9,) t(10,,) t(,,)") ≡ Some (codes " 123" ∷ codes " 45" ∷ codes " 67" ∷ codes " 89" ∷ codes " 10" ∷ [], 11)
unfolding expand is_punctuator punctuators
placemarkers_go = refl

-- C11 6.10.3.5, EXAMPLE 7
abbrev example_7 : List (Text × MacroText)
example_7 = like (codes "showlist") [] true (codes "puts(#__VA_ARGS__)") ∷ like (codes "report") (codes "test" ∷ []) true (codes "((test)?puts(#test): printf(__VA_ARGS__))") ∷ []

a_list_is_shown : texts (expand (table example_7) (toks (codes "showlist(The first, second, and third items.);")) 100) ≡ Some (codes "puts(\"The first, second, and third items.\");")
unfolding expand is_punctuator punctuators
a_list_is_shown = refl

a_list_is_reported : texts (expand (table example_7) (toks (codes "report(x>y, \"x is %d but y is %d\", x, y);")) 100) ≡ Some (codes "((x>y)?puts(\"x>y\"):printf(\"x is %d but y is %d\",x,y));")
unfolding expand is_punctuator punctuators
a_list_is_reported = refl

-- roles: K is a macro's name, y is dropped, u is made a string, v and w1 are pasted
abbrev events_of : Answer (List Token) → List Event
events_of (Stopped cause events) = []
events_of (Gave ts left events) = events

abbrev each_role : List (Text × MacroText)
each_role = like (codes "K") (codes "a" ∷ codes "b" ∷ codes "c" ∷ codes "d" ∷ []) false (codes "#b c##d") ∷ []

each_role_is_told :
    events_of (expand (table each_role) (toks (codes "K(y,u,v,w1)")) 100)
    ≡ Taken (codes "K") (at 0) MacroName ∷ Taken (codes "y") (at 2) Dropped ∷ Taken (codes "u") (at 4) Stringized ∷ Taken (codes "v") (at 6) Pasted
    ∷ Taken (codes "w1") (at 8) Pasted ∷ Rule ∷ Rule ∷ Rule ∷ []
unfolding expand is_punctuator punctuators
each_role_is_told = refl
