-- Worked examples, computed.
use Rattle.std.specs.Prelude.{◌≡◌, ℕ, zero, suc, ◌+◌, ◌/◌, ◌%◌, Bool, true, false, if◌then◌else◌, List, [], ◌∷◌, ◌++◌, map, flat_map, replicate, length, codes, bytes_eq, Option, Some, None, refl}
use Rattle.std.specs.Fmt.{digits}
use Rattle.cr_base.specs.declared.token.Place.{Place}
use Rattle.cr_base.specs.declared.unit.Unit.{Unit}
use Rattle.cr_base.specs.declared.cause.IllCause.TheVariants as cause
use Rattle.cr_base.specs.declared.cause.Role.{Role}
use Rattle.cr_base.specs.declared.cause.Role.TheVariants.{Param, Controlling, Directive, Opaque, MacroName, Dropped}
use Rattle.cr_snapshot.specs.BuiltIns.{is_built_in}
use Rattle.cr_snapshot.specs.Files.{Finding, Present, Absent, Unknown}
use Rattle.cr_snapshot.specs.IncludeSearch.{is_words}
use Rattle.cr_lex.specs.Joins.{cells}
use Rattle.cr_lex.specs.Lexing.{longest, cut, lexed}
use Rattle.cr_lex.specs.Spellings.{token_kind, part_of}
use Rattle.cr_cond.specs.Constants.{unsigned_suffixes, plain_suffixes}
use Rattle.cr_macros.specs.OneToken as one
use Rattle.cr_macros.specs.Tokens.{Event as Telling, Rule, Taken}
use Rattle.cr_macros.specs.Expansion.{expand}
use Rattle.cr_phase4.specs.Tasks.{Tokens, Macros, Reading, Includes, State, End, Ill, Over, Needs, Event, Opened, Looked, Told, Final, Reply, Goes, Ends, Nothing, events_of}
use Rattle.cr_phase4.specs.Search.{World}
use Rattle.cr_phase4.specs.Preprocessing.{preprocessed, does_unit, at_first}
use Rattle.cr_phase4.specs.PreprocessingRun.{steps}

-- lines, each with a line feed
abbrev text : List (List ℕ) → List ℕ
text = flat_map (λ l. l ++ 10 ∷ [])

abbrev the_unit : Unit
the_unit = record { number = 0; main = codes "a.c"; directory = []; quote_dirs = []; dirs = codes "inc" ∷ []; system_dirs = []; words = [] }

abbrev found_in : List (List ℕ × List ℕ) → List ℕ → Finding
found_in [] path = Absent
found_in (f ∷ fs) path = if bytes_eq f.0 path then Present 1 f.1 else found_in fs path

abbrev world : List (List ℕ × List ℕ) → World
world fs = record { find = λ path. if is_words path then Present 0 [] else found_in fs path; number = λ path. 1 }

abbrev one_file : List (List ℕ) → List (List ℕ × List ℕ)
one_file ls = (codes "a.c", text ls) ∷ []

abbrev final_of : Event → List (List ℕ × ℕ)
final_of (Final t) = (t.text, t.site.offset) ∷ []
final_of _ = []

abbrev opened_of : Event → List (List ℕ)
opened_of (Opened path) = if is_words path then [] else path ∷ []
opened_of _ = []

abbrev looked_of : Event → List (List ℕ)
looked_of (Looked paths) = paths
looked_of _ = []

pub record Shown : Type 0 where
  pub finals : List (List ℕ × ℕ)
  pub opened : List (List ℕ)
  pub looked : List (List ℕ)
  pub end : Option End

abbrev shown_by : List Event → Option End → Shown
shown_by es end = record { finals = flat_map final_of es; opened = flat_map opened_of es; looked = flat_map looked_of es; end = end }

abbrev shown : Reply Nothing → Shown
shown (Goes d s es) = shown_by es None
shown (Ends end es) = shown_by es (Some end)

abbrev run : List (List ℕ × List ℕ) → Shown
unfolding preprocessed expand is_built_in lexed cells cut longest part_of token_kind one.is_punctuator one.punctuators unsigned_suffixes plain_suffixes
run fs = shown (preprocessed (world fs) the_unit)

abbrev here : ℕ → Place
here n = record { path = record { 0 = 1 }; offset = n }

the_second_group_is_taken : run (one_file (codes "#if 0" ∷ codes "#elif 1" ∷ codes "x" ∷ codes "#else" ∷ codes "y" ∷ codes "#endif" ∷ []))
    ≡ record { finals = (codes "x", 14) ∷ []; opened = codes "a.c" ∷ []; looked = codes "a.c" ∷ []; end = None }
unfolding preprocessed expand is_built_in lexed cells cut longest part_of token_kind one.is_punctuator one.punctuators unsigned_suffixes plain_suffixes
the_second_group_is_taken = refl

-- a header with a guard, in the second of two directories
abbrev guarded : List (List ℕ × List ℕ)
guarded =
    (codes "a.c", text (codes "#include \"h.h\"" ∷ codes "#include <h.h>" ∷ codes "int h;" ∷ []))
    ∷ (codes "inc/h.h", text (codes "#ifndef H" ∷ codes "#define H 1" ∷ codes "int g;" ∷ codes "#endif" ∷ [])) ∷ []

a_guard_skips : run guarded ≡ record {
  finals = (codes "int", 22) ∷ (codes "g", 26) ∷ (codes ";", 27) ∷ (codes "int", 30) ∷ (codes "h", 34) ∷ (codes ";", 35) ∷ [];
  opened = codes "a.c" ∷ codes "inc/h.h" ∷ codes "inc/h.h" ∷ [];
  looked = codes "a.c" ∷ codes "h.h" ∷ codes "inc/h.h" ∷ codes "inc/h.h" ∷ [];
  end = None;
}
unfolding preprocessed expand is_built_in lexed cells cut longest part_of token_kind one.is_punctuator one.punctuators unsigned_suffixes plain_suffixes
a_guard_skips = refl

-- a file that is opened once
abbrev once : List (List ℕ × List ℕ)
once =
    (codes "a.c", text (codes "#include \"h.h\"" ∷ codes "#define N <h.h>" ∷ codes "#include N" ∷ []))
    ∷ (codes "inc/h.h", text (codes "#pragma once" ∷ codes "g" ∷ [])) ∷ []

once_is_once : (run once).opened ≡ codes "a.c" ∷ codes "inc/h.h" ∷ []
unfolding preprocessed expand is_built_in lexed cells cut longest part_of token_kind one.is_punctuator one.punctuators unsigned_suffixes plain_suffixes
once_is_once = refl

a_missing_file : run (one_file (codes "x" ∷ codes "#include \"n.h\"" ∷ [])) ≡ record {
  finals = (codes "x", 0) ∷ [];
  opened = codes "a.c" ∷ [];
  looked = codes "a.c" ∷ codes "n.h" ∷ codes "inc/n.h" ∷ [];
  end = Some (Ill cause.MissingFile (here 11));
}
unfolding preprocessed expand is_built_in lexed cells cut longest part_of token_kind one.is_punctuator one.punctuators unsigned_suffixes plain_suffixes
a_missing_file = refl

a_missing_main_file : (run []).end ≡ Some (Ill cause.MissingFile (here 0))
unfolding preprocessed expand is_built_in lexed cells cut longest part_of token_kind one.is_punctuator one.punctuators unsigned_suffixes plain_suffixes
a_missing_main_file = refl

-- a call crosses lines and conditionals, and no other directive
a_call_crosses_a_conditional : (run (one_file (codes "#define f(a) <a>" ∷ codes "f(" ∷ codes "#if 1" ∷ codes "1" ∷ codes "#endif" ∷ codes ")" ∷ []))).finals ≡ (codes "<", 17) ∷ (codes "1", 17) ∷ (codes ">", 17) ∷ []
unfolding preprocessed expand is_built_in lexed cells cut longest part_of token_kind one.is_punctuator one.punctuators unsigned_suffixes plain_suffixes
a_call_crosses_a_conditional = refl

a_call_crosses_no_directive : (run (one_file (codes "#define f(a) <a>" ∷ codes "f(" ∷ codes "#line 1" ∷ codes "1)" ∷ []))).end ≡ Some (Ill cause.OpenCall (here 17))
unfolding preprocessed expand is_built_in lexed cells cut longest part_of token_kind one.is_punctuator one.punctuators unsigned_suffixes plain_suffixes
a_call_crosses_no_directive = refl

-- where a conditional is ill inside a run, an open call gives way, and other causes come first
a_conditional_before_an_open_call : (run (one_file (codes "#define f(a) <a>" ∷ codes "f(" ∷ codes "#if 1 +" ∷ codes "1)" ∷ []))).end ≡ Some (Ill cause.CondSyntax (here 20))
unfolding preprocessed expand is_built_in lexed cells cut longest part_of token_kind one.is_punctuator one.punctuators unsigned_suffixes plain_suffixes
a_conditional_before_an_open_call = refl

a_paste_before_a_conditional : (run (one_file (codes "#define C(a) a##/" ∷ codes "C(+)" ∷ codes "#endif" ∷ []))).end ≡ Some (Ill cause.BadPaste (here 18))
unfolding preprocessed expand is_built_in lexed cells cut longest part_of token_kind one.is_punctuator one.punctuators unsigned_suffixes plain_suffixes
a_paste_before_a_conditional = refl

an_open_if_before_an_open_call : (run (one_file (codes "#define f(a) <a>" ∷ codes "#if 1" ∷ codes "f(" ∷ []))).end ≡ Some (Ill cause.OpenIf (here 17))
unfolding preprocessed expand is_built_in lexed cells cut longest part_of token_kind one.is_punctuator one.punctuators unsigned_suffixes plain_suffixes
an_open_if_before_an_open_call = refl

the_innermost_if_is_open : (run (one_file (codes "#if 1" ∷ codes "#if 1" ∷ []))).end ≡ Some (Ill cause.OpenIf (here 6))
unfolding preprocessed expand is_built_in lexed cells cut longest part_of token_kind one.is_punctuator one.punctuators unsigned_suffixes plain_suffixes
the_innermost_if_is_open = refl

an_error_before_an_open_if : (run (one_file (codes "#if 1" ∷ codes "#error" ∷ []))).end ≡ Some (Ill cause.ErrorDirective (here 6))
unfolding preprocessed expand is_built_in lexed cells cut longest part_of token_kind one.is_punctuator one.punctuators unsigned_suffixes plain_suffixes
an_error_before_an_open_if = refl

an_elif_behind_else : (run (one_file (codes "#if defined(X) || !defined X" ∷ codes "#else" ∷ codes "#elif" ∷ []))).end ≡ Some (Ill cause.StrayElse (here 35))
unfolding preprocessed expand is_built_in lexed cells cut longest part_of token_kind one.is_punctuator one.punctuators unsigned_suffixes plain_suffixes
an_elif_behind_else = refl

an_else_behind_else_is_checked_where_lines_are_skipped : (run (one_file (codes "#if 0" ∷ codes "#if (" ∷ codes "#else" ∷ codes "#else" ∷ codes "#endif" ∷ codes "#endif" ∷ []))).end ≡ Some (Ill cause.StrayElse (here 18))
unfolding preprocessed expand is_built_in lexed cells cut longest part_of token_kind one.is_punctuator one.punctuators unsigned_suffixes plain_suffixes
an_else_behind_else_is_checked_where_lines_are_skipped = refl

a_later_elif_is_not_evaluated : (run (one_file (codes "#if 1" ∷ codes "x" ∷ codes "#elif 1/0" ∷ codes "y" ∷ codes "#else" ∷ codes "z" ∷ codes "#endif" ∷ codes "w" ∷ []))).finals ≡ (codes "x", 6) ∷ (codes "w", 35) ∷ []
unfolding preprocessed expand is_built_in lexed cells cut longest part_of token_kind one.is_punctuator one.punctuators unsigned_suffixes plain_suffixes
a_later_elif_is_not_evaluated = refl

a_parameter_twice : (run (one_file (codes "#define f(a, a) a" ∷ []))).end ≡ Some (Ill cause.BadDefine (here 0))
unfolding preprocessed expand is_built_in lexed cells cut longest part_of token_kind one.is_punctuator one.punctuators unsigned_suffixes plain_suffixes
a_parameter_twice = refl

no_undef_of_a_predefined_macro : (run (one_file (codes "#undef __VA_ARGS__" ∷ codes "#undef X" ∷ codes "#undef __FILE__" ∷ []))).end ≡ Some (Ill cause.BadDefine (here 28))
unfolding preprocessed expand is_built_in lexed cells cut longest part_of token_kind one.is_punctuator one.punctuators unsigned_suffixes plain_suffixes
no_undef_of_a_predefined_macro = refl

a_made_defined : (run (one_file (codes "#define D defined" ∷ codes "#if D" ∷ codes "#endif" ∷ []))).end ≡ Some (Ill cause.MadeDefined (here 18))
unfolding preprocessed expand is_built_in lexed cells cut longest part_of token_kind one.is_punctuator one.punctuators unsigned_suffixes plain_suffixes
a_made_defined = refl

-- a lexical fault ends its line, and the directive on it is carried out first
a_directive_before_a_fault : run ((codes "a.c", text (codes "x" ∷ codes "#include \"h.h\" /* x" ∷ [])) ∷ (codes "h.h", codes "y") ∷ []) ≡ record {
  finals = (codes "x", 0) ∷ (codes "y", 0) ∷ [];
  opened = codes "a.c" ∷ codes "h.h" ∷ [];
  looked = codes "a.c" ∷ codes "h.h" ∷ [];
  end = Some (Ill cause.OpenComment (here 17));
}
unfolding preprocessed expand is_built_in lexed cells cut longest part_of token_kind one.is_punctuator one.punctuators unsigned_suffixes plain_suffixes
a_directive_before_a_fault = refl

a_fault_where_lines_are_skipped : (run (one_file (codes "#if 0" ∷ codes "/* x" ∷ []))).end ≡ Some (Ill cause.OpenComment (here 6))
unfolding preprocessed expand is_built_in lexed cells cut longest part_of token_kind one.is_punctuator one.punctuators unsigned_suffixes plain_suffixes
a_fault_where_lines_are_skipped = refl

no_word_behind_the_hash : (run (one_file (codes "#" ∷ codes "# 33" ∷ []))).end ≡ Some (Ill cause.BadDirective (here 2))
unfolding preprocessed expand is_built_in lexed cells cut longest part_of token_kind one.is_punctuator one.punctuators unsigned_suffixes plain_suffixes
no_word_behind_the_hash = refl

an_empty_macro_behind_a_name : (run ((codes "a.c", text (codes "#define E" ∷ codes "#include \"h.h\" E" ∷ [])) ∷ (codes "h.h", codes "y") ∷ [])).finals ≡ (codes "y", 0) ∷ []
unfolding preprocessed expand is_built_in lexed cells cut longest part_of token_kind one.is_punctuator one.punctuators unsigned_suffixes plain_suffixes
an_empty_macro_behind_a_name = refl

a_hash_from_a_macro_is_no_directive : (run (one_file (codes "#define H #" ∷ codes "H error" ∷ []))).finals ≡ (codes "#", 12) ∷ (codes "error", 14) ∷ []
unfolding preprocessed expand is_built_in lexed cells cut longest part_of token_kind one.is_punctuator one.punctuators unsigned_suffixes plain_suffixes
a_hash_from_a_macro_is_no_directive = refl

-- a file of which nothing is known
abbrev half_known : World
half_known = record (world guarded) { find = λ path. if bytes_eq path (codes "h.h") then Unknown else (world guarded).find path }

a_file_is_wanted : (shown (preprocessed half_known the_unit)).end ≡ Some (Needs (codes "h.h" ∷ []))
unfolding preprocessed expand is_built_in lexed cells cut longest part_of token_kind one.is_punctuator one.punctuators unsigned_suffixes plain_suffixes
a_file_is_wanted = refl

-- a file that includes itself is opened at level 201, and no further
abbrev itself : List (List ℕ × List ℕ)
itself = one_file (codes "#include \"a.c\"" ∷ [])

levels_of_includes : ◌≡◌ {A = ℕ × Option End} (length (run itself).opened, (run itself).end) (202, Some (Over Includes))
unfolding preprocessed expand is_built_in lexed cells cut longest part_of token_kind one.is_punctuator one.punctuators unsigned_suffixes plain_suffixes
levels_of_includes = refl

-- a limit of tokens comes before a later cause of its run, and behind an earlier one
abbrev end_with_room : ℕ → Option End
unfolding expand is_built_in lexed cells cut longest part_of token_kind one.is_punctuator one.punctuators unsigned_suffixes plain_suffixes
end_with_room n = (shown (does_unit (world (one_file (codes "#define C(a) a##/" ∷ codes "a b C(+)" ∷ []))) the_unit (record at_first { room = n }))).end

tokens_before_a_paste : end_with_room 1 ≡ Some (Over Tokens)
unfolding expand is_built_in lexed cells cut longest part_of token_kind one.is_punctuator one.punctuators unsigned_suffixes plain_suffixes
tokens_before_a_paste = refl

a_paste_before_tokens : end_with_room 2 ≡ Some (Ill cause.BadPaste (here 22))
unfolding expand is_built_in lexed cells cut longest part_of token_kind one.is_punctuator one.punctuators unsigned_suffixes plain_suffixes
a_paste_before_tokens = refl

-- files and tokens are read, and what a run gives comes before the limit that a token of its next line passes
abbrev end_with_reading : ℕ → List (List ℕ) → Option End
unfolding expand is_built_in lexed cells cut longest part_of token_kind one.is_punctuator one.punctuators unsigned_suffixes plain_suffixes
end_with_reading n lines = (shown (does_unit (world (one_file lines)) the_unit (record at_first { reading = n }))).end

two_files_and_two_tokens : end_with_reading 4 (codes "x y" ∷ []) ≡ None
unfolding expand is_built_in lexed cells cut longest part_of token_kind one.is_punctuator one.punctuators unsigned_suffixes plain_suffixes
two_files_and_two_tokens = refl

a_token_too_many : end_with_reading 3 (codes "x y" ∷ []) ≡ Some (Over Reading)
unfolding expand is_built_in lexed cells cut longest part_of token_kind one.is_punctuator one.punctuators unsigned_suffixes plain_suffixes
a_token_too_many = refl

a_paste_before_reading : end_with_reading 15 (codes "#define C(a) a##/" ∷ codes "C(+) z" ∷ []) ≡ Some (Ill cause.BadPaste (here 18))
unfolding expand is_built_in lexed cells cut longest part_of token_kind one.is_punctuator one.punctuators unsigned_suffixes plain_suffixes
a_paste_before_reading = refl

abbrev taken_as : Telling → List (ℕ × Role)
taken_as Rule = []
taken_as (Taken t place role) = (place.offset, role) ∷ []

abbrev taken_of : Event → List (ℕ × Role)
taken_of (Told e) = taken_as e
taken_of _ = []

abbrev roles : Reply Nothing → List (ℕ × Role)
roles (Goes d s es) = flat_map taken_of es
roles (Ends e es) = flat_map taken_of es

roles_in_directives : roles (preprocessed (world (one_file (codes "#define f(a) a b" ∷ codes "#if defined f && !x" ∷ codes "#pragma p q" ∷ codes "#endif" ∷ []))) the_unit) ≡ (1, Directive) ∷ (8, Directive) ∷ (10, Param) ∷ (13, Param) ∷ (18, Directive) ∷ (21, Directive) ∷ (29, Directive) ∷ (35, Controlling) ∷ (38, Directive) ∷ (45, Opaque) ∷ (47, Opaque) ∷ (50, Directive) ∷ []
unfolding preprocessed expand is_built_in lexed cells cut longest part_of token_kind one.is_punctuator one.punctuators unsigned_suffixes plain_suffixes
roles_in_directives = refl

roles_on_an_error_line : roles (preprocessed (world (one_file (codes "#error e x" ∷ []))) the_unit) ≡ (1, Directive) ∷ (7, Directive) ∷ (9, Directive) ∷ []
unfolding preprocessed expand is_built_in lexed cells cut longest part_of token_kind one.is_punctuator one.punctuators unsigned_suffixes plain_suffixes
roles_on_an_error_line = refl

roles_in_a_call : roles (preprocessed (world (one_file (codes "#define f(a) 1" ∷ codes "f(g)" ∷ []))) the_unit) ≡ (1, Directive) ∷ (8, Directive) ∷ (10, Param) ∷ (15, MacroName) ∷ (17, Dropped) ∷ []
unfolding preprocessed expand is_built_in lexed cells cut longest part_of token_kind one.is_punctuator one.punctuators unsigned_suffixes plain_suffixes
roles_in_a_call = refl

-- a step takes a token, or uses a rule
steps_of_a_file : steps (events_of (preprocessed (world (one_file (codes "#define N 1" ∷ codes "N x" ∷ []))) the_unit)) ≡ 9
unfolding preprocessed expand is_built_in lexed cells cut longest part_of token_kind one.is_punctuator one.punctuators unsigned_suffixes plain_suffixes
steps_of_a_file = refl

-- the end of a unit of one file, and its tokens
abbrev ended : List (List ℕ) → Option End
unfolding preprocessed expand is_built_in lexed cells cut longest part_of token_kind one.is_punctuator one.punctuators unsigned_suffixes plain_suffixes
ended ls = (run (one_file ls)).end

abbrev given : List (List ℕ) → List (List ℕ × ℕ)
unfolding preprocessed expand is_built_in lexed cells cut longest part_of token_kind one.is_punctuator one.punctuators unsigned_suffixes plain_suffixes
given ls = (run (one_file ls)).finals

-- it is missing at the first token of its name, or of what stands there for it
a_file_that_is_not_there : map ended (
    (codes "#include \"no.h\"" ∷ codes "int foo;" ∷ [])
    ∷ (codes "#define N <n.h>" ∷ codes "#include N" ∷ [])
    ∷ (codes "#define Q \"n.h\"" ∷ codes "#include Q" ∷ [])
    ∷ [])
    ≡ Some (Ill cause.MissingFile (here 9))
    ∷ Some (Ill cause.MissingFile (here 25))
    ∷ Some (Ill cause.MissingFile (here 25))
    ∷ []
unfolding preprocessed expand is_built_in lexed cells cut longest part_of token_kind one.is_punctuator one.punctuators unsigned_suffixes plain_suffixes
a_file_that_is_not_there = refl

a_division_by_zero : map ended (
    (codes "#if 1/0" ∷ codes "#endif" ∷ codes "int foo;" ∷ [])
    ∷ (codes "#if 0&&1/0" ∷ codes "#endif" ∷ codes "int foo;" ∷ [])
    ∷ [])
    ≡ Some (Ill cause.DivideByZero (here 0))
    ∷ None
    ∷ []
unfolding preprocessed expand is_built_in lexed cells cut longest part_of token_kind one.is_punctuator one.punctuators unsigned_suffixes plain_suffixes
a_division_by_zero = refl

a_division_that_is_not_evaluated : given (codes "#if 0&&1/0" ∷ codes "#endif" ∷ codes "int foo;" ∷ []) ≡ (codes "int", 18) ∷ (codes "foo", 22) ∷ (codes ";", 25) ∷ []
unfolding preprocessed expand is_built_in lexed cells cut longest part_of token_kind one.is_punctuator one.punctuators unsigned_suffixes plain_suffixes
a_division_that_is_not_evaluated = refl

-- a header name is one string without a prefix, or `<` up to a last `>`
bad_directives : map (λ l. ended (l ∷ [])) (
    codes "#include <a//b>"
    ∷ codes "#include <a->"
    ∷ codes "#include <a"
    ∷ codes "#include"
    ∷ codes "#include \"x.h\" junk"
    ∷ codes "#include L\"x.h\""
    ∷ codes "# 33 \"x\""
    ∷ codes "#foo"
    ∷ codes "#include_next <x.h>"
    ∷ codes "#ifdef"
    ∷ codes "#ifdef 1"
    ∷ codes "#ifndef"
    ∷ codes "#ifndef \"x\""
    ∷ [])
    ≡ replicate 13 (Some (Ill cause.BadDirective (here 0)))
unfolding preprocessed expand is_built_in lexed cells cut longest part_of token_kind one.is_punctuator one.punctuators unsigned_suffixes plain_suffixes
bad_directives = refl

bad_directives_that_are_skipped : given (codes "#if 0" ∷ codes "#foo" ∷ codes "# 33 \"x\"" ∷ codes "#include" ∷ codes "#error x" ∷ codes "#define" ∷ codes "#undef 1" ∷ codes "#ifdef" ∷ codes "#endif" ∷ codes "#endif" ∷ codes "y" ∷ []) ≡ (codes "y", 76) ∷ []
unfolding preprocessed expand is_built_in lexed cells cut longest part_of token_kind one.is_punctuator one.punctuators unsigned_suffixes plain_suffixes
bad_directives_that_are_skipped = refl

bad_definitions : map (λ l. ended (l ∷ [])) (
    codes "#define"
    ∷ codes "#define 1"
    ∷ codes "#define defined"
    ∷ codes "#define __FILE__ 1"
    ∷ codes "#undef"
    ∷ codes "#undef 1"
    ∷ codes "#undef defined"
    ∷ codes "#undef __LINE__"
    ∷ codes "#define f(a,...,b) a"
    ∷ codes "#define f(1) 1"
    ∷ codes "#define f(a"
    ∷ codes "#define f(a,) a"
    ∷ codes "#define f(a b) a"
    ∷ codes "#define X ## a"
    ∷ codes "#define X a ##"
    ∷ codes "#define X ##"
    ∷ codes "#define f(a) #b"
    ∷ codes "#define f(a) #"
    ∷ codes "#define X __VA_ARGS__"
    ∷ codes "#define f(a) __VA_ARGS__"
    ∷ codes "#define __VA_ARGS__ 1"
    ∷ codes "#define f(__VA_ARGS__,...) 1"
    ∷ [])
    ≡ replicate 22 (Some (Ill cause.BadDefine (here 0)))
unfolding preprocessed expand is_built_in lexed cells cut longest part_of token_kind one.is_punctuator one.punctuators unsigned_suffixes plain_suffixes
bad_definitions = refl

good_directives : map (λ l. ended (l ∷ [])) (
    codes "#define X #"
    ∷ codes "#define X a ## b"
    ∷ codes "#define f(...) #__VA_ARGS__"
    ∷ codes "#define f(a,...) a"
    ∷ codes "#define f (1)"
    ∷ codes "#define int long"
    ∷ codes "#define f() 1"
    ∷ codes "#undef X y z"
    ∷ codes "#undef __VA_ARGS__"
    ∷ codes "#"
    ∷ codes "#line x"
    ∷ codes "#warning x"
    ∷ codes "#ident x"
    ∷ codes "#pragma x y"
    ∷ codes "#pragma"
    ∷ codes "%:define X"
    ∷ [])
    ≡ replicate 16 None
unfolding preprocessed expand is_built_in lexed cells cut longest part_of token_kind one.is_punctuator one.punctuators unsigned_suffixes plain_suffixes
good_directives = refl

-- tokens behind the name of an `undef` are ignored
the_last_definition_stands : given (codes "#define X 1" ∷ codes "#define X 2" ∷ codes "X" ∷ codes "#undef X Y Z" ∷ codes "X" ∷ []) ≡ (codes "2", 24) ∷ (codes "X", 39) ∷ []
unfolding preprocessed expand is_built_in lexed cells cut longest part_of token_kind one.is_punctuator one.punctuators unsigned_suffixes plain_suffixes
the_last_definition_stands = refl

more_tokens_are_ignored : given (codes "#define X" ∷ codes "#ifdef X junk" ∷ codes "1" ∷ codes "#else junk" ∷ codes "2" ∷ codes "#endif junk" ∷ codes "#ifndef X 1" ∷ codes "3" ∷ codes "#endif" ∷ []) ≡ (codes "1", 24) ∷ []
unfolding preprocessed expand is_built_in lexed cells cut longest part_of token_kind one.is_punctuator one.punctuators unsigned_suffixes plain_suffixes
more_tokens_are_ignored = refl

defined_is_answered : given (codes "#define X" ∷ codes "#if defined X && defined(X) && defined ( X ) && !defined(Y) && defined __FILE__" ∷ codes "1" ∷ codes "#endif" ∷ codes "#if defined defined" ∷ codes "2" ∷ codes "#endif" ∷ codes "#ifdef __LINE__" ∷ codes "3" ∷ codes "#endif" ∷ []) ≡ (codes "1", 90) ∷ (codes "3", 144) ∷ []
unfolding preprocessed expand is_built_in lexed cells cut longest part_of token_kind one.is_punctuator one.punctuators unsigned_suffixes plain_suffixes
defined_is_answered = refl

-- they stand at the `#`, also those of an expansion there
faults_of_conditions : map ended (
    (codes "#if" ∷ [])
    ∷ (codes "#if defined" ∷ [])
    ∷ (codes "#if defined(X" ∷ [])
    ∷ (codes "#if 1 + defined" ∷ [])
    ∷ (codes "#if 08 +" ∷ [])
    ∷ (codes "#if 08" ∷ [])
    ∷ (codes "#if \"a\"" ∷ [])
    ∷ (codes "#if 1.5" ∷ [])
    ∷ (codes "#if 1 << 64" ∷ [])
    ∷ (codes "#if 0 && 08" ∷ [])
    ∷ (codes "#define f(a) a" ∷ codes "#if f(1,2)" ∷ [])
    ∷ (codes "#define f(a) a" ∷ codes "#if f(1" ∷ [])
    ∷ (codes "#define C(a) a##/" ∷ codes "#if C(+)" ∷ [])
    ∷ (codes "#define f(a) a" ∷ codes "#include f(1" ∷ [])
    ∷ [])
    ≡ Some (Ill cause.CondSyntax (here 0))
    ∷ Some (Ill cause.MadeDefined (here 0))
    ∷ Some (Ill cause.MadeDefined (here 0))
    ∷ Some (Ill cause.MadeDefined (here 0))
    ∷ Some (Ill cause.CondSyntax (here 0))
    ∷ Some (Ill cause.CondConstant (here 0))
    ∷ Some (Ill cause.CondSyntax (here 0))
    ∷ Some (Ill cause.CondConstant (here 0))
    ∷ Some (Ill cause.Overflow (here 0))
    ∷ Some (Ill cause.CondConstant (here 0))
    ∷ Some (Ill cause.ArgCount (here 15))
    ∷ Some (Ill cause.OpenCall (here 15))
    ∷ Some (Ill cause.BadPaste (here 18))
    ∷ Some (Ill cause.OpenCall (here 15))
    ∷ []
unfolding preprocessed expand is_built_in lexed cells cut longest part_of token_kind one.is_punctuator one.punctuators unsigned_suffixes plain_suffixes
faults_of_conditions = refl

-- what stands before it comes first, but for a call that is open there
a_fault_of_lexing : map ended (
    (codes "#define C(a) a##/" ∷ codes "C(+) /* x" ∷ [])
    ∷ (codes "#define f(a) a" ∷ codes "f(1 /* x" ∷ [])
    ∷ (codes "#define f(a) a" ∷ codes "f(1,2) f( ??=" ∷ [])
    ∷ (codes "#if 1/0 /* x" ∷ [])
    ∷ (codes "#if 1 /* x" ∷ [])
    ∷ (codes "#error /* x" ∷ [])
    ∷ (codes "#foo /* x" ∷ [])
    ∷ (codes "x ??= y" ∷ [])
    ∷ (codes "#include <a/*b>" ∷ [])
    ∷ [])
    ≡ Some (Ill cause.BadPaste (here 18))
    ∷ Some (Ill cause.OpenComment (here 19))
    ∷ Some (Ill cause.ArgCount (here 15))
    ∷ Some (Ill cause.DivideByZero (here 0))
    ∷ Some (Ill cause.OpenComment (here 6))
    ∷ Some (Ill cause.ErrorDirective (here 0))
    ∷ Some (Ill cause.BadDirective (here 0))
    ∷ Some (Ill cause.Trigraph (here 2))
    ∷ Some (Ill cause.BadDirective (here 0))
    ∷ []
unfolding preprocessed expand is_built_in lexed cells cut longest part_of token_kind one.is_punctuator one.punctuators unsigned_suffixes plain_suffixes
a_fault_of_lexing = refl

-- its faults come first, but for an open call, also one that is open in an argument
a_run_before_a_conditional : map ended (
    (codes "#define f(a) a" ∷ codes "f(1,2)" ∷ codes "#if 1/0" ∷ [])
    ∷ (codes "#define f(a) a" ∷ codes "f(1" ∷ codes "#if 1" ∷ codes "#endif" ∷ codes ",2)" ∷ codes "#else" ∷ [])
    ∷ (codes "#define f(a) a" ∷ codes "f(1" ∷ codes "#ifdef" ∷ [])
    ∷ (codes "#define f(a) a" ∷ codes "f(1" ∷ codes "#else" ∷ [])
    ∷ (codes "#define f(a) a" ∷ codes "f(1" ∷ codes "#if 0" ∷ codes "#else" ∷ codes "#else" ∷ [])
    ∷ (codes "#define f(a) a" ∷ codes "#define g(a) a" ∷ codes "#define H g(" ∷ codes "f(H)" ∷ codes "#endif" ∷ [])
    ∷ (codes "#define f(a) a" ∷ codes "#define g(a) a" ∷ codes "#define H g(" ∷ codes "f(H)" ∷ [])
    ∷ [])
    ≡ Some (Ill cause.ArgCount (here 15))
    ∷ Some (Ill cause.ArgCount (here 15))
    ∷ Some (Ill cause.BadDirective (here 19))
    ∷ Some (Ill cause.StrayElse (here 19))
    ∷ Some (Ill cause.StrayElse (here 31))
    ∷ Some (Ill cause.StrayElse (here 48))
    ∷ Some (Ill cause.OpenCall (here 45))
    ∷ []
unfolding preprocessed expand is_built_in lexed cells cut longest part_of token_kind one.is_punctuator one.punctuators unsigned_suffixes plain_suffixes
a_run_before_a_conditional = refl

-- at a directive that isn't conditional, and at the file's end
an_open_call_stands : map ended (
    (codes "#define f(a) a" ∷ codes "f(1" ∷ [])
    ∷ (codes "#define f(a) a" ∷ codes "f(1" ∷ codes "#" ∷ codes ")" ∷ [])
    ∷ (codes "#define f(a) a" ∷ codes "f(1" ∷ codes "# 33" ∷ [])
    ∷ (codes "#define f(a) a" ∷ codes "f(1" ∷ codes "#foo" ∷ [])
    ∷ (codes "#define f(a) a" ∷ codes "f(1" ∷ codes "#error" ∷ [])
    ∷ (codes "#define f(a) a" ∷ codes "f(1" ∷ codes "#include \"no.h\"" ∷ [])
    ∷ (codes "#define f(a) a" ∷ codes "f(1" ∷ codes "#if 0" ∷ codes "#foo" ∷ codes "#endif" ∷ codes "#undef f" ∷ [])
    ∷ [])
    ≡ Some (Ill cause.OpenCall (here 15))
    ∷ Some (Ill cause.OpenCall (here 15))
    ∷ Some (Ill cause.OpenCall (here 15))
    ∷ Some (Ill cause.OpenCall (here 15))
    ∷ Some (Ill cause.OpenCall (here 15))
    ∷ Some (Ill cause.OpenCall (here 15))
    ∷ Some (Ill cause.OpenCall (here 15))
    ∷ []
unfolding preprocessed expand is_built_in lexed cells cut longest part_of token_kind one.is_punctuator one.punctuators unsigned_suffixes plain_suffixes
an_open_call_stands = refl

stray_words : map ended (
    (codes "#else" ∷ [])
    ∷ (codes "#elif 1" ∷ [])
    ∷ (codes "#endif" ∷ [])
    ∷ (codes "#if 0" ∷ codes "#if 0" ∷ codes "#else" ∷ codes "#elif 1" ∷ [])
    ∷ (codes "#if 1" ∷ codes "#elif 1" ∷ codes "#else" ∷ codes "#else" ∷ [])
    ∷ (codes "#if 1" ∷ codes "#if 1" ∷ codes "#endif" ∷ codes "#elif x" ∷ [])
    ∷ [])
    ≡ Some (Ill cause.StrayElse (here 0))
    ∷ Some (Ill cause.StrayElse (here 0))
    ∷ Some (Ill cause.StrayElse (here 0))
    ∷ Some (Ill cause.StrayElse (here 18))
    ∷ Some (Ill cause.StrayElse (here 20))
    ∷ Some (Ill cause.OpenIf (here 0))
    ∷ []
unfolding preprocessed expand is_built_in lexed cells cut longest part_of token_kind one.is_punctuator one.punctuators unsigned_suffixes plain_suffixes
stray_words = refl

-- in an argument it is the token's own line, in a body that of the macro's name; `#line` changes nothing
lines_of_tokens : given (codes "#define f(a) a __LINE__" ∷ codes "f(" ∷ codes "__LINE__" ∷ codes ") __LINE__" ∷ codes "#line 9" ∷ codes "__LINE__ __FILE__" ∷ []) ≡ (codes "3", 24) ∷ (codes "2", 24) ∷ (codes "4", 38) ∷ (codes "6", 55) ∷ (codes "\"a.c\"", 64) ∷ []
unfolding preprocessed expand is_built_in lexed cells cut longest part_of token_kind one.is_punctuator one.punctuators unsigned_suffixes plain_suffixes digits
lines_of_tokens = refl

-- the file is that of the token's site
names_of_files : run ((codes "a.c", text (codes "#include <h.h>" ∷ codes "F" ∷ [])) ∷ (codes "inc/h.h", text (codes "#define F __FILE__" ∷ codes "__FILE__ __LINE__" ∷ [])) ∷ []) ≡ record {
  finals = (codes "\"inc/h.h\"", 19) ∷ (codes "2", 28) ∷ (codes "\"a.c\"", 15) ∷ [];
  opened = codes "a.c" ∷ codes "inc/h.h" ∷ [];
  looked = codes "a.c" ∷ codes "inc/h.h" ∷ [];
  end = None;
}
unfolding preprocessed expand is_built_in lexed cells cut longest part_of token_kind one.is_punctuator one.punctuators unsigned_suffixes plain_suffixes digits
names_of_files = refl

includes_behind_expansion : run ((codes "a.c", text (codes "#define H <h.h>" ∷ codes "#include H" ∷ codes "#define Q \"g.h\"" ∷ codes "#include Q" ∷ [])) ∷ (codes "inc/h.h", text (codes "h" ∷ [])) ∷ (codes "inc/g.h", text (codes "g" ∷ [])) ∷ []) ≡ record {
  finals = (codes "h", 0) ∷ (codes "g", 0) ∷ [];
  opened = codes "a.c" ∷ codes "inc/h.h" ∷ codes "inc/g.h" ∷ [];
  looked = codes "a.c" ∷ codes "inc/h.h" ∷ codes "g.h" ∷ codes "inc/g.h" ∷ [];
  end = None;
}
unfolding preprocessed expand is_built_in lexed cells cut longest part_of token_kind one.is_punctuator one.punctuators unsigned_suffixes plain_suffixes
includes_behind_expansion = refl

blanks_in_a_header_name : run ((codes "a.c", text (codes "#include < h.h >" ∷ [])) ∷ (codes "inc/h.h", text (codes "h" ∷ [])) ∷ []) ≡ record {
  finals = [];
  opened = codes "a.c" ∷ [];
  looked = codes "a.c" ∷ codes "inc/ h.h " ∷ [];
  end = Some (Ill cause.MissingFile (here 9));
}
unfolding preprocessed expand is_built_in lexed cells cut longest part_of token_kind one.is_punctuator one.punctuators unsigned_suffixes plain_suffixes
blanks_in_a_header_name = refl

an_absolute_name : run ((codes "a.c", text (codes "#include </x/./h.h>" ∷ codes "#include \"//stdio.h\"" ∷ [])) ∷ (codes "/x/h.h", text (codes "h" ∷ [])) ∷ []) ≡ record {
  finals = (codes "h", 0) ∷ [];
  opened = codes "a.c" ∷ codes "/x/h.h" ∷ [];
  looked = codes "a.c" ∷ codes "/x/h.h" ∷ codes "/stdio.h" ∷ [];
  end = Some (Ill cause.MissingFile (here 29));
}
unfolding preprocessed expand is_built_in lexed cells cut longest part_of token_kind one.is_punctuator one.punctuators unsigned_suffixes plain_suffixes
an_absolute_name = refl

the_directory_of_the_including_file : run ((codes "a.c", text (codes "#include <h.h>" ∷ [])) ∷ (codes "inc/h.h", text (codes "#include \"g.h\"" ∷ [])) ∷ (codes "g.h", text (codes "1" ∷ [])) ∷ (codes "inc/g.h", text (codes "2" ∷ [])) ∷ []) ≡ record {
  finals = (codes "2", 0) ∷ [];
  opened = codes "a.c" ∷ codes "inc/h.h" ∷ codes "inc/g.h" ∷ [];
  looked = codes "a.c" ∷ codes "inc/h.h" ∷ codes "inc/g.h" ∷ [];
  end = None;
}
unfolding preprocessed expand is_built_in lexed cells cut longest part_of token_kind one.is_punctuator one.punctuators unsigned_suffixes plain_suffixes
the_directory_of_the_including_file = refl

a_built_in_header : run ((codes "a.c", text (codes "#include <stdbool.h>" ∷ codes "bool" ∷ [])) ∷ (codes "//stdbool.h", text (codes "#pragma once" ∷ codes "#define bool _Bool" ∷ codes "#define true 1" ∷ codes "#define false 0" ∷ [])) ∷ []) ≡ record {
  finals = (codes "_Bool", 21) ∷ [];
  opened = codes "a.c" ∷ codes "//stdbool.h" ∷ [];
  looked = codes "a.c" ∷ codes "inc/stdbool.h" ∷ [];
  end = None;
}
unfolding preprocessed expand is_built_in lexed cells cut longest part_of token_kind one.is_punctuator one.punctuators unsigned_suffixes plain_suffixes
a_built_in_header = refl

conditionals_are_closed_in_their_file : (run ((codes "a.c", text (codes "#if 1" ∷ codes "#include \"h.h\"" ∷ codes "#endif" ∷ [])) ∷ (codes "h.h", text (codes "x" ∷ codes "#endif" ∷ [])) ∷ [])).end ∷ (run ((codes "a.c", text (codes "x" ∷ codes "#if 1" ∷ codes "#include \"h.h\"" ∷ codes "#endif" ∷ [])) ∷ (codes "h.h", text (codes "#if 1" ∷ [])) ∷ [])).end ∷ [] ≡ Some (Ill cause.StrayElse (here 2)) ∷ Some (Ill cause.OpenIf (here 0)) ∷ []
unfolding preprocessed expand is_built_in lexed cells cut longest part_of token_kind one.is_punctuator one.punctuators unsigned_suffixes plain_suffixes
conditionals_are_closed_in_their_file = refl

a_run_ends_with_its_file : (run ((codes "a.c", text (codes "#define f(a) a" ∷ codes "#include <h.h>" ∷ codes ")" ∷ [])) ∷ (codes "inc/h.h", text (codes "x f(1" ∷ [])) ∷ [])).end ≡ Some (Ill cause.OpenCall (here 2))
unfolding preprocessed expand is_built_in lexed cells cut longest part_of token_kind one.is_punctuator one.punctuators unsigned_suffixes plain_suffixes
a_run_ends_with_its_file = refl

-- with a text of command words
abbrev with_words : List (List ℕ) → List (List ℕ × List ℕ) → Shown
unfolding preprocessed expand is_built_in lexed cells cut longest part_of token_kind one.is_punctuator one.punctuators unsigned_suffixes plain_suffixes
with_words ls fs = shown (preprocessed (record (world fs) { find = λ path. if is_words path then Present 0 (text ls) else found_in fs path }) the_unit)

words_come_first : with_words (codes "#define N 1 " ∷ codes "#include \"w.h\" " ∷ []) ((codes "a.c", text (codes "N" ∷ [])) ∷ (codes "w.h", text (codes "__FILE__" ∷ [])) ∷ []) ≡ record {
  finals = (codes "\"w.h\"", 0) ∷ (codes "1", 0) ∷ [];
  opened = codes "w.h" ∷ codes "a.c" ∷ [];
  looked = codes "w.h" ∷ codes "a.c" ∷ [];
  end = None;
}
unfolding preprocessed expand is_built_in lexed cells cut longest part_of token_kind one.is_punctuator one.punctuators unsigned_suffixes plain_suffixes
words_come_first = refl

a_main_file_that_is_not_opened_again : with_words (codes "#include \"a.c\" " ∷ []) ((codes "a.c", text (codes "#pragma once" ∷ codes "x" ∷ [])) ∷ []) ≡ record {
  finals = (codes "x", 13) ∷ [];
  opened = codes "a.c" ∷ [];
  looked = codes "a.c" ∷ codes "a.c" ∷ [];
  end = None;
}
unfolding preprocessed expand is_built_in lexed cells cut longest part_of token_kind one.is_punctuator one.punctuators unsigned_suffixes plain_suffixes
a_main_file_that_is_not_opened_again = refl

-- nothing is known but the main file and this one
abbrev little_known : World
little_known = record (world []) { find = λ path. if is_words path then Present 0 [] else if bytes_eq path (codes "a.c") then Present 1 (text (codes "#include \"n.h\"" ∷ [])) else if bytes_eq path (codes "inc/n.h") then Absent else Unknown }

the_unknown_ones_are_wanted : (shown (preprocessed little_known (record the_unit { dirs = codes "inc" ∷ codes "far" ∷ [] }))).end ≡ Some (Needs (codes "n.h" ∷ codes "far/n.h" ∷ []))
unfolding preprocessed expand is_built_in lexed cells cut longest part_of token_kind one.is_punctuator one.punctuators unsigned_suffixes plain_suffixes
the_unknown_ones_are_wanted = refl

-- how a unit of one file ends with less of what is limited
abbrev ended_with : State → List (List ℕ) → Option End
unfolding expand is_built_in lexed cells cut longest part_of token_kind one.is_punctuator one.punctuators unsigned_suffixes plain_suffixes
ended_with s ls = (shown (does_unit (world (one_file ls)) the_unit s)).end

-- it counts too; what an ill conditional used is there again for the run before it
work_in_directives : ended_with (record at_first { work = 4 }) (codes "#define N 1" ∷ codes "#if N" ∷ codes "#endif" ∷ codes "N" ∷ [])
    ∷ ended_with (record at_first { work = 3 }) (codes "#define N 1" ∷ codes "#if N" ∷ codes "#endif" ∷ codes "N" ∷ [])
    ∷ ended_with (record at_first { work = 2 }) (codes "#define N 1" ∷ codes "N" ∷ codes "#if N +" ∷ [])
    ∷ ended_with (record at_first { work = 1 }) (codes "#define C(a) a##/" ∷ codes "#define N 1" ∷ codes "C(+)" ∷ codes "#if N" ∷ [])
    ∷ ended_with (record at_first { work = 1 }) (codes "#define f(a) a" ∷ codes "#define N 1" ∷ codes "f(" ∷ codes "#if N" ∷ [])
    ∷ []
    ≡ None
    ∷ Some (Over Macros)
    ∷ Some (Ill cause.CondSyntax (here 14))
    ∷ Some (Ill cause.BadPaste (here 30))
    ∷ Some (Over Macros)
    ∷ []
unfolding preprocessed expand is_built_in lexed cells cut longest part_of token_kind one.is_punctuator one.punctuators unsigned_suffixes plain_suffixes
work_in_directives = refl

-- what the run gives before it comes first, but for an open call; skipped tokens and files are read
a_limit_of_reading_inside_a_run : ended_with (record at_first { reading = 4 }) (codes "x y" ∷ [])
    ∷ ended_with (record at_first { reading = 3 }) (codes "x y" ∷ [])
    ∷ ended_with (record at_first { reading = 1 }) (codes "x y" ∷ [])
    ∷ ended_with (record at_first { reading = 14 }) (codes "#define C(a) a##/" ∷ codes "C(+) x y" ∷ [])
    ∷ ended_with (record at_first { reading = 15 }) (codes "#define C(a) a##/" ∷ codes "C(+) x y" ∷ [])
    ∷ ended_with (record at_first { reading = 19 }) (codes "#define C(a) a##/" ∷ codes "C(+)" ∷ codes "#if 0" ∷ codes "x y z" ∷ [])
    ∷ ended_with (record at_first { reading = 16 }) (codes "#define f(a) a" ∷ codes "f(1" ∷ codes "#if 0" ∷ codes "x y z" ∷ [])
    ∷ []
    ≡ None
    ∷ Some (Over Reading)
    ∷ Some (Over Reading)
    ∷ Some (Over Reading)
    ∷ Some (Ill cause.BadPaste (here 18))
    ∷ Some (Ill cause.BadPaste (here 18))
    ∷ Some (Over Reading)
    ∷ []
unfolding preprocessed expand is_built_in lexed cells cut longest part_of token_kind one.is_punctuator one.punctuators unsigned_suffixes plain_suffixes
a_limit_of_reading_inside_a_run = refl

roles_of_words_and_names : roles (preprocessed (world (one_file (codes "#ifdef X y" ∷ codes "#endif k" ∷ codes "#define X 1" ∷ codes "#line q" ∷ codes "#warning w v" ∷ codes "#ident i" ∷ codes "#undef X z" ∷ codes "#pragma once p" ∷ codes "#if 1" ∷ codes "#elif q" ∷ codes "#else e" ∷ codes "#endif" ∷ []))) the_unit) ≡ (1, Directive) ∷ (7, Directive) ∷ (12, Directive) ∷ (21, Directive) ∷ (28, Directive) ∷ (33, Directive) ∷ (38, Directive) ∷ (41, Directive) ∷ (49, Directive) ∷ (51, Directive) ∷ (54, Directive) ∷ (63, Directive) ∷ (69, Directive) ∷ (74, Directive) ∷ (89, Directive) ∷ (95, Directive) ∷ (103, Directive) ∷ (111, Directive) ∷ []
unfolding preprocessed expand is_built_in lexed cells cut longest part_of token_kind one.is_punctuator one.punctuators unsigned_suffixes plain_suffixes
roles_of_words_and_names = refl

no_roles_where_lines_are_skipped : roles (preprocessed (world (one_file (codes "#if 0" ∷ codes "#if x" ∷ codes "#elif y" ∷ codes "#else" ∷ codes "#endif" ∷ codes "#define z" ∷ codes "#endif" ∷ []))) the_unit) ≡ (1, Directive) ∷ (44, Directive) ∷ []
unfolding preprocessed expand is_built_in lexed cells cut longest part_of token_kind one.is_punctuator one.punctuators unsigned_suffixes plain_suffixes
no_roles_where_lines_are_skipped = refl

abbrev is_directive : Role → Bool
is_directive Directive = true
is_directive _ = false

abbrev directive_places : List (List ℕ × List ℕ) → List ℕ
unfolding preprocessed expand is_built_in lexed cells cut longest part_of token_kind one.is_punctuator one.punctuators unsigned_suffixes plain_suffixes
directive_places fs = flat_map (λ p. if is_directive p.1 then p.0 ∷ [] else []) (roles (preprocessed (world fs) the_unit))

-- those on the line, and those of the list that it expands to
roles_of_an_include : directive_places ((codes "a.c", text (codes "#define H <h.h>" ∷ codes "#include H" ∷ codes "#include <h.h>" ∷ [])) ∷ (codes "inc/h.h", text ([])) ∷ []) ≡ 1 ∷ 8 ∷ 17 ∷ 25 ∷ 11 ∷ 13 ∷ 28 ∷ 37 ∷ 39 ∷ []
unfolding preprocessed expand is_built_in lexed cells cut longest part_of token_kind one.is_punctuator one.punctuators unsigned_suffixes plain_suffixes
roles_of_an_include = refl

-- files that each include the next, from number k on, and the last one; two letters name each
abbrev header_at : ℕ → List ℕ
header_at k = (97 + k / 26) ∷ (97 + k % 26) ∷ []

abbrev chain : ℕ → ℕ → List (List ℕ) → List (List ℕ × List ℕ)
chain zero k last = (header_at k, text last) ∷ []
chain (suc n) k last = (header_at k, text ((codes "#include \"" ++ header_at (k + 1) ++ codes "\"") ∷ [])) ∷ chain n (k + 1) last

abbrev from_main : List (List ℕ) → ℕ → List (List ℕ) → List (List ℕ × List ℕ)
from_main first n last = (codes "a.c", text first) ∷ chain n 1 last

two_hundred_levels : (run (from_main (codes "#include \"ab\"" ∷ []) 199 (codes "int foo;" ∷ []))).finals ≡ (codes "int", 0) ∷ (codes "foo", 4) ∷ (codes ";", 7) ∷ []
unfolding preprocessed expand is_built_in lexed cells cut longest part_of token_kind one.is_punctuator one.punctuators unsigned_suffixes plain_suffixes
two_hundred_levels = refl

-- a file that isn't there is missing there too, and one that isn't opened again counts no level
one_level_more : (run (from_main (codes "#include \"ab\"" ∷ []) 199 (codes "int foo;" ∷ []))).end
    ∷ (run (from_main (codes "#include \"ab\"" ∷ []) 200 (codes "int foo;" ∷ []))).end
    ∷ (run (from_main (codes "#include \"ab\"" ∷ []) 199 (codes "#include \"no.h\"" ∷ []))).end
    ∷ (run (from_main (codes "#pragma once" ∷ codes "#include \"ab\"" ∷ []) 199 (codes "#include \"a.c\"" ∷ []))).end
    ∷ []
    ≡ None
    ∷ Some (Over Includes)
    ∷ Some (Ill cause.MissingFile (here 9))
    ∷ None
    ∷ []
unfolding preprocessed expand is_built_in lexed cells cut longest part_of token_kind one.is_punctuator one.punctuators unsigned_suffixes plain_suffixes
one_level_more = refl

-- a line whose first token is `#`; comments and joined lines are no tokens
what_a_directive_is : map ended (
    (codes "/* */ #error" ∷ [])
    ∷ (codes "/*" ∷ codes "*/ #error" ∷ [])
    ∷ (codes "x /*" ∷ codes "*/ #error" ∷ [])
    ∷ (codes "#def\\" ∷ codes "ine defined" ∷ [])
    ∷ (codes "%:error" ∷ [])
    ∷ (codes "x #error" ∷ [])
    ∷ (codes "#if 0" ∷ codes "#elif" ∷ codes "#endif" ∷ [])
    ∷ (codes "#if 1" ∷ codes "#elif" ∷ codes "#endif" ∷ [])
    ∷ [])
    ≡ Some (Ill cause.ErrorDirective (here 6))
    ∷ Some (Ill cause.ErrorDirective (here 6))
    ∷ None
    ∷ Some (Ill cause.BadDefine (here 0))
    ∷ Some (Ill cause.ErrorDirective (here 0))
    ∷ None
    ∷ Some (Ill cause.CondSyntax (here 6))
    ∷ None
    ∷ []
unfolding preprocessed expand is_built_in lexed cells cut longest part_of token_kind one.is_punctuator one.punctuators unsigned_suffixes plain_suffixes
what_a_directive_is = refl

-- a wrong number of arguments comes before what is inside them
order_inside_a_call : map ended (
    (codes "#define C(a) a##/" ∷ codes "#define f(a) a" ∷ codes "f(C(+),1)" ∷ [])
    ∷ (codes "#define C(a) a##/" ∷ codes "#define f(a) a" ∷ codes "f(C(+))" ∷ [])
    ∷ (codes "#define C(a) a##/" ∷ codes "#define f(a) a" ∷ codes "f(f(1,2))" ∷ [])
    ∷ (codes "#define C(a) a##/" ∷ codes "#define f(a) a" ∷ codes "f(f(1,2)" ∷ [])
    ∷ [])
    ≡ Some (Ill cause.ArgCount (here 33))
    ∷ Some (Ill cause.BadPaste (here 35))
    ∷ Some (Ill cause.ArgCount (here 35))
    ∷ Some (Ill cause.OpenCall (here 33))
    ∷ []
unfolding preprocessed expand is_built_in lexed cells cut longest part_of token_kind one.is_punctuator one.punctuators unsigned_suffixes plain_suffixes
order_inside_a_call = refl

a_paste_before_the_limit_of_work : ended_with (record at_first { work = 0 }) (codes "#define C(a) a##/" ∷ codes "C(+)" ∷ [])
    ∷ ended_with (record at_first { work = 1 }) (codes "#define f(a) a" ∷ codes "f(1)" ∷ [])
    ∷ ended_with (record at_first { work = 2 }) (codes "#define f(a) a" ∷ codes "f(1)" ∷ [])
    ∷ []
    ≡ Some (Ill cause.BadPaste (here 18))
    ∷ Some (Over Macros)
    ∷ None
    ∷ []
unfolding preprocessed expand is_built_in lexed cells cut longest part_of token_kind one.is_punctuator one.punctuators unsigned_suffixes plain_suffixes
a_paste_before_the_limit_of_work = refl

-- a call's `(` must be there
a_name_before_a_made_parenthesis : given (codes "#define f(a) [a]" ∷ codes "#define LP (" ∷ codes "f LP 1)" ∷ []) ≡ (codes "f", 30) ∷ (codes "(", 32) ∷ (codes "1", 35) ∷ (codes ")", 36) ∷ []
unfolding preprocessed expand is_built_in lexed cells cut longest part_of token_kind one.is_punctuator one.punctuators unsigned_suffixes plain_suffixes
a_name_before_a_made_parenthesis = refl

defined_in_a_call : given (codes "#define f(a) a" ∷ codes "#if f(defined f)" ∷ codes "1" ∷ codes "#endif" ∷ []) ≡ (codes "1", 32) ∷ []
unfolding preprocessed expand is_built_in lexed cells cut longest part_of token_kind one.is_punctuator one.punctuators unsigned_suffixes plain_suffixes
defined_in_a_call = refl

-- C11 6.10.3.5, example 4
the_standards_include : run ((codes "a.c", text (codes "#define str(s) # s" ∷ codes "#define xstr(s) str(s)" ∷ codes "#define INCFILE(n) vers ## n" ∷ codes "#include xstr(INCFILE(2).h)" ∷ [])) ∷ (codes "vers2.h", text (codes "v" ∷ [])) ∷ []) ≡ record {
  finals = (codes "v", 0) ∷ [];
  opened = codes "a.c" ∷ codes "vers2.h" ∷ [];
  looked = codes "a.c" ∷ codes "vers2.h" ∷ [];
  end = None;
}
unfolding preprocessed expand is_built_in lexed cells cut longest part_of token_kind one.is_punctuator one.punctuators unsigned_suffixes plain_suffixes
the_standards_include = refl

-- C11 6.10.2p8
the_standards_versions : run ((codes "a.c", text (codes "#define VERSION 2" ∷ codes "#if VERSION == 1" ∷ codes "#define INCFILE \"vers1.h\"" ∷ codes "#elif VERSION == 2" ∷ codes "#define INCFILE \"vers2.h\"" ∷ codes "#else" ∷ codes "#define INCFILE \"versN.h\"" ∷ codes "#endif" ∷ codes "#include INCFILE" ∷ [])) ∷ (codes "vers2.h", text (codes "v" ∷ [])) ∷ []) ≡ record {
  finals = (codes "v", 0) ∷ [];
  opened = codes "a.c" ∷ codes "vers2.h" ∷ [];
  looked = codes "a.c" ∷ codes "vers2.h" ∷ [];
  end = None;
}
unfolding preprocessed expand is_built_in lexed cells cut longest part_of token_kind one.is_punctuator one.punctuators unsigned_suffixes plain_suffixes
the_standards_versions = refl

a_guard_ends_a_header_in_itself : run ((codes "a.c", text (codes "#include \"h.h\"" ∷ [])) ∷ (codes "h.h", text (codes "#ifndef H" ∷ codes "#define H" ∷ codes "#include \"h.h\"" ∷ codes "1" ∷ codes "#endif" ∷ [])) ∷ []) ≡ record {
  finals = (codes "1", 35) ∷ [];
  opened = codes "a.c" ∷ codes "h.h" ∷ codes "h.h" ∷ [];
  looked = codes "a.c" ∷ codes "h.h" ∷ codes "h.h" ∷ [];
  end = None;
}
unfolding preprocessed expand is_built_in lexed cells cut longest part_of token_kind one.is_punctuator one.punctuators unsigned_suffixes plain_suffixes
a_guard_ends_a_header_in_itself = refl

-- where a call fails, the steps inside its arguments were made: 24 tokens are taken, and one is given
steps_before_a_fault : steps (events_of (preprocessed (world (one_file (codes "#define C(a) a##/" ∷ codes "#define f(x) x" ∷ codes "f(1 C(+))" ∷ []))) the_unit)) ≡ 25
unfolding preprocessed expand is_built_in lexed cells cut longest part_of token_kind one.is_punctuator one.punctuators unsigned_suffixes plain_suffixes
steps_before_a_fault = refl
