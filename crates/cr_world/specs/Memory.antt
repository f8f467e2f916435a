-- What a tree and a sink in memory hold, and which of their calls fail.
use Rattle.std.specs.Prelude.{ℕ, ◌≡◌, List, Some, None}
use Rattle.std.specs.Ordering.{nat_cmp}
use Rattle.std.specs.Cmp.Lexicographic.{slice_cmp}
use Rattle.std.specs.BTreeMap.{BTreeMap, get}
use Rattle.cr_world.specs.Outside.{Files, OthersStay}
use Rattle.cr_world.specs.Calls.{CallLog, log_of, after_call, after_fault}
use Rattle.cr_world.specs.declared.history.History.{History}
use Rattle.cr_world.specs.declared.outside.ReadEnd.{ReadEnd}
use Rattle.cr_world.specs.declared.outside.ReadEnd.TheVariants as read
use Rattle.cr_world.specs.declared.outside.DoneEnd.{DoneEnd}
use Rattle.cr_world.specs.declared.outside.DoneEnd.TheVariants as done
use Rattle.cr_world.specs.declared.mem_tree.MemTree.{MemTree}
use Rattle.cr_world.specs.declared.mem_sink.MemSink.{MemSink}

-- the map that stands in a search tree whose keys are paths
abbrev pub files_of : BTreeMap (List ℕ) (List ℕ) → Files
files_of files path = get (slice_cmp nat_cmp) files path

-- the files of a tree
abbrev pub tree_files : MemTree → Files
tree_files tree = files_of tree.files

-- the calls of `read`
abbrev pub read_log : MemTree → CallLog
read_log tree = log_of tree.reads

-- the calls of `replace`
abbrev pub replace_log : MemTree → CallLog
replace_log tree = log_of tree.replaces

-- what was asked for
abbrev pub tree_history : MemTree → History
tree_history tree = tree.history

-- the bytes that were written
abbrev pub sink_bytes : MemSink → List ℕ
sink_bytes sink = sink.bytes.items

-- the calls of `write`
abbrev pub write_log : MemSink → CallLog
write_log sink = log_of sink.calls

-- No path has a file.
abbrev pub no_files : Files
no_files path = None

-- The path has these bytes now, and every other what it had.
abbrev pub PutIn : List ℕ → List ℕ → Files → Files → Type 0
PutIn path bytes before now = (now path ≡ Some bytes) × OthersStay path before now

-- the calls of `read` after one that ended so
abbrev pub after_read : CallLog → ReadEnd → CallLog
after_read log read.Bytes = after_call log
after_read log read.Absent = after_call log
after_read log read.Long = after_call log
after_read log read.Failed = after_fault (after_call log)
after_read log read.OutOfMemory = after_call log

-- the calls of `replace` or `write` after one that ended so
abbrev pub after_done : CallLog → DoneEnd → CallLog
after_done log done.Done = after_call log
after_done log done.Failed = after_fault (after_call log)
