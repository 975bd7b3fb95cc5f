-- The first words of lines.
use Rattle.std.specs.Prelude.{ℕ, ◌||◌, Bool, if◌then◌else◌, List, Option, Some, None, codes}
use Rattle.gz_text.specs.Fields.{is_word}
use Rattle.gz_lines.specs.declared.verbs.Verb.{Verb}
use Rattle.gz_lines.specs.declared.verbs.Verb.TheVariants.{Session, Put, Delete, Get, GetAt, Deliver, Reply, GiveUp, Take, Crash, Settle, Drain, Unbuilt}

-- lines that can't be played yet
abbrev pub is_unbuilt : List ℕ → Bool
is_unbuilt field = is_word (codes "collect") field || is_word (codes "lose") field || is_word (codes "rot") field

abbrev pub other_verb_of : List ℕ → Option Verb
other_verb_of field =
    if is_word (codes "crash") field then Some Crash
    else (if is_word (codes "settle") field then Some Settle
    else (if is_word (codes "drain") field then Some Drain
    else (if is_unbuilt field then Some Unbuilt
    else None)))

abbrev pub request_verb_of : List ℕ → Option Verb
request_verb_of field =
    if is_word (codes "deliver") field then Some Deliver
    else (if is_word (codes "reply") field then Some Reply
    else (if is_word (codes "giveup") field then Some GiveUp
    else (if is_word (codes "take") field then Some Take
    else other_verb_of field)))

-- what the first field of a line asks for
abbrev pub verb_of : List ℕ → Option Verb
verb_of field =
    if is_word (codes "session") field then Some Session
    else (if is_word (codes "put") field then Some Put
    else (if is_word (codes "delete") field then Some Delete
    else (if is_word (codes "get") field then Some Get
    else (if is_word (codes "getat") field then Some GetAt
    else request_verb_of field))))
