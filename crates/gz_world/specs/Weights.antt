-- How many bytes the world counts for what it holds.
use Rattle.std.specs.Prelude.{ℕ, ◌+◌, ◌-◌, ◌*◌, ◌^◌, min, length, sum_by, List}
use Rattle.gz_core.specs.Rows.{RowAt}
use Rattle.gz_core.specs.declared.calls.Call.{Call}
use Rattle.gz_core.specs.declared.calls.Call.TheVariants as calls
use Rattle.gz_core.specs.declared.requests.Op.{Op}
use Rattle.gz_core.specs.declared.requests.Op.TheVariants as ops
use Rattle.gz_core.specs.declared.requests.Out.{Out}
use Rattle.gz_core.specs.declared.requests.Reply.{Reply}
use Rattle.gz_core.specs.declared.requests.Reply.TheVariants as replies

-- a count of bytes, which stands still at the last value of its type
abbrev pub capped : ℕ → ℕ
capped n = min n (2 ^ 64 - 1)

-- a row: 16, and 64 for each column
abbrev pub row_weight : RowAt → ℕ
row_weight row = 16 + 64 * length row.columns

-- a request: 64, and the row or the blob that it writes
abbrev pub op_weight : Op → ℕ
op_weight (ops.WriteRow key expect step row) = 64 + row_weight row
op_weight (ops.PutBlob blob bytes) = 64 + length bytes
op_weight op = 64

-- a reply: 64, and the row or the blob that it shows
abbrev pub reply_weight : Reply → ℕ
reply_weight (replies.Row etag row) = 64 + row_weight row
reply_weight (replies.Blob bytes) = 64 + length bytes
reply_weight reply = 64

-- the requests that are sent at one event
abbrev pub outs_weight : List Out → ℕ
outs_weight outs = sum_by (λ (o : Out). op_weight o.op) outs

-- the bytes that a call brings, none where it deletes or reads
abbrev pub call_bytes : Call → ℕ
call_bytes (calls.Put key bytes) = length bytes
call_bytes call = 0
