-- Of a file within the limit, the number that is told of a line is the line's own.
use Rattle.std.proofs.Common.{ℕ, ◌≡◌, ◌≤◌, List, length, Err, subst, arith}
use Rattle.gz_core.specs.declared.texts.TextError.{TextError}
use Rattle.gz_core.specs.declared.texts.TextError.TheVariants.{Bad, TooLong as TextTooLong, NoMemory as NoTextMemory}
use Rattle.gz_text.specs.declared.faults.Fault.{Fault}
use Rattle.gz_text.specs.declared.faults.Fault.TheVariants as faults
use Rattle.gz_text.specs.Faults.{told_number}
use Rattle.gz_lines.specs.Schedule.{readings, IsFirstFault, IsFaultTold, Reads}
use Rattle.gz_lines.proofs.CutLemmas.{length_readings}
use Rattle.gz_cli.specs.Inputs.{Files, HasBytes}
use Rattle.gz_cli.specs.Causes.{Counts, LoadCause, text_status}

own-number : (bytes : List ℕ) (line told : ℕ) → length bytes ≤ 67108864 → line ≤ length (readings bytes) → told ≡ told_number line → line ≡ told
own-number bytes line told small within is = let few = length_readings bytes in omega (arith, few, is)

first-fault : (bytes : List ℕ) (told : ℕ) (fault : Fault) → length bytes ≤ 67108864 → IsFaultTold (readings bytes) told fault → IsFirstFault (readings bytes) told fault
first-fault bytes told fault small h =
    let within = h.2.within in
    subst (λ (n : ℕ). IsFirstFault (readings bytes) n fault) (own-number bytes h.0 told small within h.1) h.2

-- the status of a text that is no schedule has its cause
pub text-cause : (files : Files) (name bytes : List ℕ) (old new : Counts) (error : TextError) → HasBytes files name bytes → Reads (readings bytes) (Err error) → LoadCause files name old new (text_status error)
text-cause files name bytes old new (Bad line why) has reads = (bytes, (has, first-fault bytes line (faults.Bad why) has.within reads))
text-cause files name bytes old new (TextTooLong line) has reads = (bytes, (has, first-fault bytes line faults.TooLong has.within reads))
text-cause files name bytes old new NoTextMemory has reads = tt
