-- The name that a rename takes, and what of that name is meant. Our own rules.
use Rattle.std.specs.Prelude.{ℕ, Bool, ◌&&◌, List, [], ◌∷◌, Option, Some, None, Result, Ok, if◌then◌else◌, nat_le, nat_lt, bytes_eq, codes}
use Rattle.std.specs.List.{find}
use Rattle.cr_base.specs.Names.{is_identifier}
use Rattle.cr_world.specs.Outside.{Files}
use Rattle.cr_words.specs.QualifiedNames.{QualifiedName, ordinary, tagged, member_of}
use Rattle.cr_lex.specs.Lexing.{Token, lexed}
use Rattle.cr_snapshot.specs.Files.{Finding, Present, Absent, Unknown, finding, built_ins}
use Rattle.cr_snapshot.specs.declared.known.KnownFile.{KnownFile}
use Rattle.cr_growth.specs.Growth.{with_wanted}
use Rattle.cr_class.specs.declared.target.Target.TheVariants as target
use Rattle.cr_goal.specs.Goals.{Sought, stands_at, has_name}
use Rattle.cr_goal.specs.Refusals.{reserved}
use Rattle.cr_goal.specs.declared.refusal.Refused.{Refused}
use Rattle.cr_plan.specs.declared.meaning.Meant.{Meant}

-- the token is an identifier (C11 6.4.2.1), and the offset is that of a byte of it or of a line joined inside it
abbrev pub holds : ℕ → Token → Bool
holds offset t = is_identifier t.text && nat_le t.at offset && nat_lt offset t.end

abbrev pub meant_by_token : ℕ → Option Token → Meant
meant_by_token number None = record { old = []; target = None }
meant_by_token number (Some t) =
    record { old = t.text; target = Some (target.At (record { path = record { 0 = number }; offset = t.at })) }

-- what stands at an offset of a file that is there
abbrev pub meant_at : ℕ → Finding → Meant
meant_at offset (Present number bytes) = meant_by_token number (find (holds offset) (lexed bytes).tokens)
meant_at offset Absent = record { old = []; target = None }
meant_at offset Unknown = record { old = []; target = None }

abbrev pub meant_by_name : QualifiedName → Meant
meant_by_name (ordinary name) = record { old = name; target = Some target.Ordinary }
meant_by_name (tagged kind name) = record { old = name; target = Some (target.Tagged kind) }
meant_by_name (member_of kind tag name) = record { old = name; target = Some (target.MemberOf kind tag) }

abbrev pub meant : List KnownFile → Sought → Meant
meant files (stands_at path offset) = meant_at offset (finding path files)
meant files (has_name name) = meant_by_name name

-- what is read first: the source, where what stands at an offset of it is sought
abbrev pub first_wanted : Sought → List (List ℕ)
first_wanted (stands_at path offset) = path ∷ []
first_wanted (has_name name) = []

abbrev pub known_first : Files → Sought → Option (List KnownFile)
known_first tree sought = with_wanted tree (first_wanted sought) built_ins

-- a name isn't renamed to itself, and `main` keeps its name (C11 5.1.2.2.1)
abbrev pub may_rename : List ℕ → Meant → Result Meant Refused
may_rename new m =
    if bytes_eq m.old new then reserved new
    else if bytes_eq m.old (codes "main") then reserved (codes "main")
    else Ok m
