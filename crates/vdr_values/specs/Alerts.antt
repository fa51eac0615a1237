-- The table of sentences: heartbeats, alarms, alerts and events.
use Rattle.std.specs.Prelude.{List, [], ◌∷◌, codes}
use Rattle.vdr_values.specs.Forms.{Number, Time, Digits, Letter, Raw}
use Rattle.vdr_values.specs.declared.column.Quantity.TheVariants as quantities
use Rattle.vdr_values.specs.declared.column.Item.TheVariants as items
use Rattle.vdr_values.specs.declared.column.Measure.TheVariants as measures
use Rattle.vdr_values.specs.declared.column.Asserts.TheVariants as letters
use Rattle.vdr_values.specs.declared.column.Validity.TheVariants as validities
use Rattle.vdr_values.specs.declared.column.Words.TheVariants as wordings
use Rattle.vdr_values.specs.Columns.{bare}
use Rattle.vdr_values.specs.Rows.{Row, plain, status, capital, digit}

abbrev pub alerts : List Row
alerts =
    -- repeat interval in seconds, status of the equipment, sequence
    record plain {
      formatter = codes "HBT";
      fields = Number ∷ status ∷ digit ∷ [];
      text = codes "interval 1 status 2 sequence 3";
      columns =
          record bare { quantity = quantities.Heartbeat; item = items.Told 3; measure = measures.Seconds; valid = validities.Status 2 } ∷
          [];
    } ∷
    -- time of the last change; number of the alarm; its condition, whether it is acknowledged; description
    record plain {
      formatter = codes "ALR";
      fields = Time ∷ Digits 5 0 99999 ∷ status ∷ status ∷ Raw ∷ [];
      text = codes "time 1 alarm 2 condition 3 acknowledged 4 text 5";
      columns =
          record bare { quantity = quantities.Alarm; item = items.Told 2; field = 3; words = wordings.Of 5 } ∷
          record bare { quantity = quantities.AlarmAcknowledged; item = items.Told 2; field = 4 } ∷
          [];
    } ∷
    -- number of its sentences, number of this one, sequential identifier; time of the last change; category; priority: emergency alarm, alarm, warning or
    -- caution; state: V active and unacknowledged, S silenced, A active and acknowledged, O with its responsibility transferred, U rectified and
    -- unacknowledged, N normal; manufacturer, identifier, instance; revision, escalation; text
    record plain {
      formatter = codes "ALF";
      fields = digit ∷ digit ∷ digit ∷ Time ∷ Letter (codes "ABC") ∷ Letter (codes "EAWC") ∷ Letter (codes "VSAOUN") ∷ Raw ∷ Number ∷ Number ∷ Number ∷ digit ∷ Raw ∷ [];
      text = codes "part 2 of 1 sequence 3 time 4 category 5 priority 6 state 7 maker 8 alert 9 instance A revision B escalation C text D";
      columns =
          record bare { quantity = quantities.Alert; item = items.Dotted 9 10; field = 7; asserts = letters.Active; words = wordings.Of 13 } ∷
          [];
    } ∷
    -- number of its sentences, number of this one, sequential identifier; number of alerts; manufacturer, identifier, instance and revision of each
    record plain {
      formatter = codes "ALC";
      fields = Digits 2 0 99 ∷ Digits 2 0 99 ∷ Digits 2 0 99 ∷ Number ∷ [];
      shorter = 4 ∷ [];
      text = codes "part 2 of 1 sequence 3 count 4 alerts";
      group = Raw ∷ Number ∷ Number ∷ Number ∷ [];
    } ∷
    -- time; manufacturer, identifier and instance of the alert; the command that is refused, as of ACN
    record plain {
      formatter = codes "ARC";
      fields = Time ∷ Raw ∷ Number ∷ Number ∷ Letter (codes "AQOS") ∷ [];
      text = codes "time 1 maker 2 alert 3 instance 4 refused 5";
    } ∷
    -- time; manufacturer, identifier and instance of the alert; command: acknowledge, request, transfer responsibility or silence; C for a command
    record plain {
      formatter = codes "ACN";
      fields = Time ∷ Raw ∷ Number ∷ Number ∷ Letter (codes "AQOS") ∷ capital ∷ [];
      text = codes "time 1 maker 2 alert 3 instance 4 command 5 flag 6";
    } ∷
    -- number of the alarm that is acknowledged
    record plain {
      formatter = codes "ACK";
      fields = Digits 5 0 99999 ∷ [];
      text = codes "alarm 1";
    } ∷
    -- time; system and equipment, two characters each, and its instance; type of the alarm; condition; acknowledgement; description
    record plain {
      formatter = codes "ALA";
      fields = Time ∷ Raw ∷ Raw ∷ Digits 2 0 99 ∷ Digits 3 0 999 ∷ Letter (codes "NHJLKX") ∷ Letter (codes "AVBHO") ∷ Raw ∷ [];
      text = codes "time 1 system 2 equipment 3 instance 4 type 5 condition 6 acknowledged 7 text 8";
      columns =
          record bare { quantity = quantities.Alarm; item = items.Dotted 4 5; field = 6; asserts = letters.Abnormal; words = wordings.Of 8 } ∷
          record bare { quantity = quantities.AlarmAcknowledged; item = items.Dotted 4 5; field = 7 } ∷
          [];
    } ∷
    -- status, event, fault or disabled; time; type of the system; first and second division; detector, or how many; activated, not or faulty;
    -- acknowledgement; description
    record plain {
      formatter = codes "FIR";
      fields = Letter (codes "SEFD") ∷ Time ∷ Raw ∷ Raw ∷ Digits 3 0 999 ∷ Digits 3 0 999 ∷ Letter (codes "AVX") ∷ status ∷ Raw ∷ [];
      text = codes "type 1 time 2 system 3 division 4 5 detector 6 condition 7 acknowledged 8 text 9";
      columns =
          record bare { quantity = quantities.Fire; item = items.Dotted 5 6; field = 7; words = wordings.Of 9 } ∷
          record bare { quantity = quantities.FireAcknowledged; item = items.Dotted 5 6; field = 8 } ∷
          [];
    } ∷
    -- status, event or fault; time; type of the system; first and second location; point of detection, or how many; condition; override; description
    record plain {
      formatter = codes "WAT";
      fields = Letter (codes "SEF") ∷ Time ∷ Raw ∷ Raw ∷ Digits 3 0 999 ∷ Digits 3 0 999 ∷ Letter (codes "NHJLKX") ∷ Letter (codes "ONV") ∷ Raw ∷ [];
      text = codes "type 1 time 2 system 3 location 4 5 point 6 condition 7 override 8 text 9";
      columns =
          record bare { quantity = quantities.WaterLevelAlarm; item = items.Dotted 5 6; field = 7; asserts = letters.Abnormal; words = wordings.Of 9 } ∷
          [];
    } ∷
    -- status, event or fault; time; type of the system; first and second division; door, or how many; open, closed, secured, free or faulty; switch: open
    -- as in harbour, closed as at sea; description
    record plain {
      formatter = codes "DOR";
      fields = Letter (codes "SEF") ∷ Time ∷ Raw ∷ Raw ∷ Digits 3 0 999 ∷ Digits 3 0 999 ∷ Letter (codes "OCSFX") ∷ Letter (codes "OC") ∷ Raw ∷ [];
      text = codes "type 1 time 2 system 3 division 4 5 door 6 status 7 switch 8 text 9";
      columns =
          record bare { quantity = quantities.DoorOpen; item = items.Dotted 5 6; field = 7; asserts = letters.Open; words = wordings.Of 9 } ∷
          [];
    } ∷
    -- time, code of the event's source, description
    record plain {
      formatter = codes "EVE";
      fields = Time ∷ Raw ∷ Raw ∷ [];
      text = codes "time 1 source 2 text 3";
    } ∷ []
