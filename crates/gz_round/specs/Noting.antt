-- What a running call keeps once a site has answered.
use Rattle.std.specs.Prelude.{ℕ, ◌≡◌, ◌+◌, Bool, true, false, slice_get, slice_set, Option, Some, None}
use Rattle.gz_core.specs.Rows.{RowAt}
use Rattle.gz_core.specs.declared.requests.Reply.{Reply}
use Rattle.gz_round.specs.declared.run.Awaited.{Awaited}
use Rattle.gz_round.specs.declared.hearing.Seen.{Seen}
use Rattle.gz_round.specs.declared.run.Mark.{Mark}
use Rattle.gz_round.specs.declared.run.Run.{Run}
use Rattle.gz_round.specs.Sites.{as_heard, seen_in, is_changed}

-- a row is the site's last one from now on
abbrev pub heard_run : Run → ℕ → Seen → Run
heard_run run at seen = record run {
  rows = slice_set run.rows at (Some seen.row);
  marks = slice_set run.marks at (record { etag = seen.etag; changed = false; out = false; left = None; awaited = None });
}

-- the site's last row was overtaken
abbrev pub overtaken_run : Run → ℕ → Mark → Run
overtaken_run run at mark = record run {
  marks = slice_set run.marks at (record { etag = mark.etag; changed = true; out = mark.out; left = None; awaited = None });
  met = run.met + 1;
}

-- the site is out, and its last row is kept apart
abbrev pub left_run : Run → ℕ → Mark → Option RowAt → Run
left_run run at mark row = record run {
  rows = slice_set run.rows at None;
  marks = slice_set run.marks at (record { etag = mark.etag; changed = mark.changed; out = true; left = row; awaited = None });
}

-- what a site's request came to: a row, an overtaken write, or nothing
abbrev pub noted_by : Run → ℕ → Mark → Option RowAt → Option Seen → Bool → Run
noted_by run at mark row (Some seen) changed = heard_run run at seen
noted_by run at mark row None true = overtaken_run run at mark
noted_by run at mark row None false = left_run run at mark row

abbrev pub written_of : Option Awaited → Option RowAt
written_of None = None
written_of (Some awaited) = awaited.written

-- the row that the awaited request of a site writes
abbrev pub written_at : Mark → Option RowAt
written_at mark = written_of mark.awaited

-- a reply to a call over n sites was noted
abbrev pub IsReplyNoted : ℕ → Run → ℕ → Reply → Run → Type 0
IsReplyNoted n old at reply new = (mark : Mark) (row : Option RowAt) → slice_get old.marks at ≡ Some mark → slice_get old.rows at ≡ Some row → new ≡ noted_by old at mark row (seen_in (written_at mark) (as_heard n (written_at mark) reply)) (is_changed reply)
