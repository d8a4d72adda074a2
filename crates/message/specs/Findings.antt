-- What passing over all blocks finds: the first refusal by each of the checks 3 to 5.
use Rattle.std.specs.Prelude.{ℕ, ◌+◌, List, [], ◌∷◌, Some, None, Ok, Err, Option, Result}
use Rattle.std.specs.Option.{option_or, option_map}
use Rattle.tags.specs.declared.faults.BlockFault.{BlockFault}
use Rattle.tags.specs.Faults.{fault_place}
use Rattle.block.specs.Reading.{layout}
use Rattle.values.specs.declared.kind.Kind.{Kind}
use Rattle.message.specs.declared.shapes.Slot.{Slot}
use Rattle.message.specs.declared.scan.Found.{Found}
use Rattle.message.specs.declared.findings.Findings.{Findings}
use Rattle.message.specs.declared.refusal.Refusal.{Refusal}
use Rattle.message.specs.declared.refusal.Refusal.TheVariants.{MisplacedTag}
use Rattle.message.specs.Shapes.{shape}
use Rattle.message.specs.Scanning.{report}
use Rattle.message.specs.Messages.{MessageReading, role, located, broken_layout, misplaced_tag, unfit_value}

-- the findings with what was found in block n
abbrev pub with_report : Findings → ℕ → Result Found BlockFault → Findings
with_report f n (Err e) =
    record f { layout = option_or f.layout (option_map broken_layout (located n (Some (fault_place e)))) }
with_report f n (Ok found) =
    record f {
      tags = option_or f.tags (option_map misplaced_tag (located n found.tags));
      values = option_or f.values (option_map unfit_value (located n found.values));
    }

-- the slots of block n; of an unknown kind there are none
abbrev pub slots_of : Option Kind → ℕ → List Slot
slots_of None n = []
slots_of (Some k) n = shape k (role n)

-- the findings with what is found in each of the blocks, the first of which has the number n
abbrev pub gathered : Option Kind → ℕ → List (List ℕ) → Findings → Findings
gathered k n [] f = f
gathered k n (b ∷ bs) f = gathered k (n + 1) bs (with_report f n (report (slots_of k n) (layout b)))

-- nothing found
abbrev pub nothing : Findings
nothing = record { layout = None; tags = None; values = None }

-- without a known kind the first fault of the tags is tag 1 of the header
abbrev pub tags_found : Option Kind → Findings → Option Refusal
tags_found None f = Some (MisplacedTag 0 1)
tags_found (Some k) f = f.tags

-- what the findings come to, in the order of the checks
abbrev pub judged_findings : Option Kind → Findings → Option Refusal
judged_findings k f = option_or (option_or f.layout (tags_found k f)) f.values

-- the refusal alone
abbrev pub refused : MessageReading → Option Refusal
refused (Ok fs) = None
refused (Err e) = Some e
