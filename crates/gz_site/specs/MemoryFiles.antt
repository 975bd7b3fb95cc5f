-- A shelf and a sink in memory: what they tell, and which calls they are made to fail.
use Rattle.std.specs.Prelude.{ℕ, ◌==◌, Bool, List, Option, option_map}
use Rattle.std.specs.List.{list_any}
use Rattle.std.specs.BTreeMap.{get_by_text}
use Rattle.gz_site.specs.declared.memory_files.MemShelf.{MemShelf}
use Rattle.gz_site.specs.declared.memory_files.MemSink.{MemSink}

-- whether a call is among those that fail
abbrev pub is_failing_call : List ℕ → ℕ → Bool
is_failing_call failing call = list_any (λ listed. listed == call) failing

-- the files by name
abbrev pub files_of : MemShelf → List ℕ → Option (List ℕ)
files_of s name = option_map (λ v. v.items) (get_by_text s.files name)

-- the reads of the shelf that fail, and how many it was asked so far
abbrev pub shelf_fails : MemShelf → List ℕ
shelf_fails s = s.failing.items

abbrev pub shelf_asked : MemShelf → ℕ
shelf_asked s = s.calls

-- all bytes that the sink took
abbrev pub sink_bytes : MemSink → List ℕ
sink_bytes s = s.written.items

-- the calls of the sink that fail, and how many it was asked so far
abbrev pub sink_fails : MemSink → List ℕ
sink_fails s = s.failing.items

abbrev pub sink_asked : MemSink → ℕ
sink_asked s = s.calls
