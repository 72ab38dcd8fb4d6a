-- The two frames in which the slot at the end of place 0's window is granted.
use Rattle.std.proofs.Common.{◌≡◌, ◌+◌, ◌*◌, [], ◌∷◌, ◌++◌, Some, None, refl, ap, ◌∙◌, arith}
use native.Mathlib.Decide.{dec_le}
use Rattle.std.specs.List.{between}
use Rattle.field.specs.Bounded.{within}
use Rattle.field.specs.Number.{nought, capped}
use Rattle.field.specs.Octets.{octets_of}
use Rattle.onu.specs.Answer.{number_octets}
use Rattle.onu.specs.declared.answer.Kind.TheVariants.{Ploam}
use Rattle.message.specs.declared.downstream.Downstream.TheVariants.{NoMessage}
use Rattle.plant.specs.Lawful.{answers, steady}
use Rattle.plant.specs.declared.burst.Burst.{Burst}
use Rattle.bench.specs.Bench.{quiet, woken}
use Rattle.head.specs.Table.{codes_from, settled_rows, records_from}
use Rattle.report.specs.Record.{record_bytes}
use Rattle.report.specs.declared.offset.Offset.TheVariants.{Early, Late}
use Rattle.report.specs.declared.record.Light.TheVariants.{Ploam as PloamCell}
use Rattle.report.specs.declared.record.Record.{Record}
use Rattle.rules.specs.Job.{measured_told}
use Rattle.rules.specs.Row.{entered}
use Rattle.rules.specs.declared.row.Phase.TheVariants.{InService}
use Rattle.rules.specs.Clamp.{clamped}
use Rattle.rules.specs.Settings.{first_settings}
use Rattle.history.proofs.Open.{window_codes, Window}
use Rattle.history.proofs.Reports.{report_of}
use Rattle.history.proofs.Stages.{Stage, after_message, brought, measured, told, place_0, serial_7, bits_20000}
use Rattle.history.proofs.Steps.{answered}
use Rattle.history.proofs.Table.{rows_of, begun_table, first_said, second_said}

-- Grants, bursts, records and the ONU of frames 1,039 and 2,063, computed.

-- the grants of frame 1,039
measuring_codes : codes_from first_settings (rows_of brought.row) 1039 1 53 ≡ window_codes
unfolding codes_from clamped within
measuring_codes = refl

-- the grants of frame 2,063
serving_codes : codes_from first_settings (rows_of told.row) 2063 1 53 ≡ window_codes
unfolding codes_from clamped within
serving_codes = refl

-- the burst of frame 1,039, early by what the ONU lacks of 35,392 bits
abbrev pub measured_burst : Burst
measured_burst =
    record {
      serial = serial_7;
      slot = 55119;
      start = 448 * 55119 + 20000;
      trip = bits_20000;
      kind = Ploam;
      message = number_octets brought.machine.onu;
    }

-- its record
abbrev pub measured_record : Record
measured_record = record { light = PloamCell; parity = 0; offset = Early 15392; message = measured_burst.message }

-- nothing in the first cell
first_measuring : answered brought.machine 55067 (between 0 27 window_codes) ≡ []
unfolding answers woken within dec_le
first_measuring = refl

-- the burst in the second
second_measuring : answered (record brought.machine { ranging = 2014 }) 55094 (between 27 53 window_codes ++ 255 ∷ []) ≡ measured_burst ∷ []
unfolding answers woken within dec_le clamped nought steady
second_measuring = refl

-- its record measures the ONU
measuring_settled : settled_rows first_settings 1040 1039 1 (records_from (report_of measured_record) 0 53) (rows_of brought.row) ≡ rows_of measured.row
unfolding settled_rows records_from report_of record_bytes clamped within dec_le octets_of number_octets capped
measuring_settled = refl

-- the burst of frame 2,063, on the target
abbrev pub serving_burst : Burst
serving_burst =
    record {
      serial = serial_7;
      slot = 109391;
      start = 448 * 109391 + 35392;
      trip = bits_20000;
      kind = Ploam;
      message = quiet told.machine.onu;
    }

-- its record
abbrev pub serving_record : Record
serving_record = record { light = PloamCell; parity = 0; offset = Late 0; message = serving_burst.message }

-- in service
abbrev pub served : Stage
served =
    record {
      frame = 2064;
      row = record (entered serial_7) { phase = InService; next = None; delay = Some 15392; since = 2064 };
      machine = told.machine;
    }

-- nothing in the first cell
first_serving : answered told.machine 109339 (between 0 27 window_codes) ≡ []
unfolding answers woken within dec_le
first_serving = refl

-- the burst in the second
second_serving : answered told.machine 109366 (between 27 53 window_codes ++ 255 ∷ []) ≡ serving_burst ∷ []
unfolding answers woken within dec_le clamped nought steady
second_serving = refl

-- its record brings service
serving_settled : settled_rows first_settings 2064 2063 1 (records_from (report_of serving_record) 0 53) (rows_of told.row) ≡ rows_of served.row
unfolding settled_rows records_from report_of record_bytes clamped within dec_le octets_of capped
serving_settled = refl

-- the ONU after frame 1,039, and after its first cell
measuring_machine : after_message NoMessage (after_message NoMessage brought.machine) ≡ measured.machine
unfolding woken
measuring_machine = refl

measuring_first : after_message NoMessage brought.machine ≡ record brought.machine { ranging = 2014 }
unfolding woken
measuring_first = refl

-- a cell without a message leaves it as it is
serving_machine : after_message NoMessage told.machine ≡ told.machine
unfolding woken
serving_machine = refl

-- frame 1,039
pub measuring : Window brought measured measured_burst measured_record
measuring =
    record {
      begins = begun_table 1039 brought.row;
      codes = measuring_codes;
      first_message = first_said NoMessage brought.row 1039 refl;
      second_message = second_said brought.row 1039;
      next = refl;
      machine = measuring_machine;
      first_bursts = first_measuring;
      second_bursts = ap (λ q. answered q 55094 (between 27 53 window_codes ++ 255 ∷ [])) measuring_first ∙ second_measuring;
      settles = measuring_settled;
      brings = record { slot = refl; kind = refl; offset = refl; message = refl };
      parity = omega arith;
      holds = omega arith;
    }

-- frame 2,063
pub serving : Window told served serving_burst serving_record
serving =
    record {
      begins = begun_table 2063 told.row;
      codes = serving_codes;
      first_message = first_said (measured_told place_0 told.row.delay) told.row 2063 refl;
      second_message = second_said told.row 2063;
      next = refl;
      machine = ap (after_message NoMessage) serving_machine ∙ serving_machine;
      first_bursts = first_serving;
      second_bursts = ap (λ q. answered q 109366 (between 27 53 window_codes ++ 255 ∷ [])) serving_machine ∙ second_serving;
      settles = serving_settled;
      brings = record { slot = refl; kind = refl; offset = refl; message = refl };
      parity = omega arith;
      holds = omega arith;
    }
