-- The kinds of calls and of answers, by their words.
use Rattle.std.specs.Prelude.{ℕ, Bool, true, false, if◌then◌else◌, List, Option, Some, None, codes}
use Rattle.gz_core.specs.declared.calls.Call.{Call}
use Rattle.gz_core.specs.declared.calls.Call.TheVariants as calls
use Rattle.gz_text.specs.Fields.{is_word}
use Rattle.gz_logs.specs.declared.kinds.Kind.{Kind}
use Rattle.gz_logs.specs.declared.kinds.Kind.TheVariants.{Put, Delete, Get, GetAt, Collect}
use Rattle.gz_logs.specs.declared.kinds.Told.{Told}
use Rattle.gz_logs.specs.declared.kinds.Told.TheVariants as told

-- the kind of a word
abbrev pub kind_in : List ℕ → Option Kind
kind_in word =
    if is_word (codes "put") word then Some Put
    else (if is_word (codes "delete") word then Some Delete
    else (if is_word (codes "get") word then Some Get
    else (if is_word (codes "getat") word then Some GetAt
    else (if is_word (codes "collect") word then Some Collect
    else None))))

-- the kind of a call
abbrev pub kind_of : Call → Kind
kind_of (calls.Put key bytes) = Put
kind_of (calls.Delete key) = Delete
kind_of (calls.Get key) = Get
kind_of (calls.GetAt key version) = GetAt
kind_of (calls.Collect key keep) = Collect

-- the kind of an answer, of those that give no value, or give it up
abbrev pub ended_in : List ℕ → Option Told
ended_in word =
    if is_word (codes "absent") word then Some told.Absent
    else (if is_word (codes "unborn") word then Some told.Unborn
    else (if is_word (codes "collected") word then Some told.Collected
    else (if is_word (codes "swept") word then Some told.Swept
    else (if is_word (codes "held") word then Some told.Held
    else (if is_word (codes "noquorum") word then Some told.NoQuorum
    else (if is_word (codes "contended") word then Some told.Contended
    else (if is_word (codes "unsure") word then Some told.Unsure
    else None)))))))

-- the kind of an answer's first word
abbrev pub told_in : List ℕ → Option Told
told_in word =
    if is_word (codes "ok") word then Some told.Ok
    else (if is_word (codes "thin") word then Some told.Thin
    else (if is_word (codes "short") word then Some told.Short
    else (if is_word (codes "bytes") word then Some told.Bytes
    else (if is_word (codes "incomplete") word then Some told.Incomplete
    else (if is_word (codes "gone") word then Some told.Gone
    else ended_in word)))))

-- which answers each kind of call has
abbrev pub may_answer : Kind → Told → Bool
may_answer Put told.Ok = true
may_answer Put told.Thin = true
may_answer Put told.Short = true
may_answer Put told.Unsure = true
may_answer Delete told.Ok = true
may_answer Delete told.Unsure = true
may_answer Get told.Bytes = true
may_answer Get told.Incomplete = true
may_answer Get told.Gone = true
may_answer Get told.Absent = true
may_answer GetAt told.Bytes = true
may_answer GetAt told.Incomplete = true
may_answer GetAt told.Gone = true
may_answer GetAt told.Unborn = true
may_answer GetAt told.Collected = true
may_answer Collect told.Swept = true
may_answer Collect told.Held = true
may_answer kind told.NoQuorum = true
may_answer kind told.Contended = true
may_answer kind answer = false
