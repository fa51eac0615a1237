-- The table of sentences: AIS, and what a radar shows.
use Rattle.std.specs.Prelude.{List, [], ◌∷◌, codes}
use Rattle.vdr_values.specs.Forms.{Number, Time, Digits, Letter, Raw}
use Rattle.vdr_values.specs.declared.column.Quantity.TheVariants as quantities
use Rattle.vdr_values.specs.declared.column.Item.TheVariants as items
use Rattle.vdr_values.specs.declared.column.Which.TheVariants as which
use Rattle.vdr_values.specs.declared.column.Measure.TheVariants as measures
use Rattle.vdr_values.specs.declared.column.Validity.TheVariants as validities
use Rattle.vdr_values.specs.declared.column.Words.TheVariants as wordings
use Rattle.vdr_values.specs.Columns.{bare, lost}
use Rattle.vdr_values.specs.Rows.{Row, plain, status, digit}

abbrev pub traffic : List Row
traffic =
    -- AIS message of another ship: number of its sentences, number of this one, sequential identifier; channel; encapsulated message; fill bits
    record plain {
      formatter = codes "VDM";
      fields = digit ∷ digit ∷ digit ∷ Raw ∷ Raw ∷ Digits 1 0 5 ∷ [];
      text = codes "part 2 of 1 sequence 3 channel 4 fill 6 payload 5";
    } ∷
    -- AIS message of the own ship, as VDM
    record plain {
      formatter = codes "VDO";
      fields = digit ∷ digit ∷ digit ∷ Raw ∷ Raw ∷ Digits 1 0 5 ∷ [];
      text = codes "part 2 of 1 sequence 3 channel 4 fill 6 payload 5";
    } ∷
    -- number of the target; its distance and bearing, T for true or R for relative; its speed and course, T or R; closest point of approach, and minutes to
    -- it; unit of speed and distance; name; lost, query or tracked; R for a reference target; UTC; acquired automatically, manually or reported
    record plain {
      formatter = codes "TTM";
      fields = Digits 4 0 9999 ∷ Number ∷ Number ∷ Letter (codes "TR") ∷ Number ∷ Number ∷ Letter (codes "TR") ∷ Number ∷ Number ∷ Letter (codes "KNS") ∷ Raw ∷ Letter (codes "LQT") ∷ Letter (codes "R") ∷ Time ∷ Letter (codes "AMR") ∷ [];
      shorter = 13 ∷ [];
      text = codes "target 1 distance 2 bearing 3 4 speed 5 course 6 7 cpa 8 tcpa 9 units A name B status C reference D time E acquired F";
      columns =
          record bare { quantity = quantities.TargetRange; item = items.Told 1; measure = measures.DistanceBy 10; field = 2; valid = validities.Unless 12 lost } ∷
          record bare { quantity = quantities.TargetBearing; item = items.Told 1; measure = measures.Degrees; field = 3; valid = validities.Unless 12 lost; words = wordings.Of 4 } ∷
          record bare { quantity = quantities.TargetSpeed; item = items.Told 1; measure = measures.SpeedBy 10; field = 5; valid = validities.Unless 12 lost } ∷
          record bare { quantity = quantities.TargetCourse; item = items.Told 1; measure = measures.Degrees; field = 6; valid = validities.Unless 12 lost; words = wordings.Of 7 } ∷
          record bare { quantity = quantities.Cpa; item = items.Told 1; measure = measures.DistanceBy 10; field = 8; valid = validities.Unless 12 lost } ∷
          record bare { quantity = quantities.Tcpa; item = items.Told 1; measure = measures.Minutes; field = 9; valid = validities.Unless 12 lost } ∷
          [];
    } ∷
    -- number of a target and the label that it is given, again for each target
    record plain {
      formatter = codes "TLB";
      text = codes "labels";
      group = Number ∷ Raw ∷ [];
    } ∷
    -- true heading, status; true course, its reference; speed, its reference; set and drift; unit of speed. B bottom track, M manual, W water, R radar, P
    -- positioning
    record plain {
      formatter = codes "OSD";
      fields = Number ∷ status ∷ Number ∷ Letter (codes "BMWRP") ∷ Number ∷ Letter (codes "BMWRP") ∷ Number ∷ Number ∷ Letter (codes "KNS") ∷ [];
      text = codes "heading 1 status 2 course 3 ref 4 speed 5 ref 6 set 7 drift 8 units 9";
      columns =
          record bare { quantity = quantities.Heading; measure = measures.Degrees; valid = validities.Status 2 } ∷
          record bare { quantity = quantities.Course; item = items.Named which.True; measure = measures.Degrees; field = 3; words = wordings.Of 4 } ∷
          record bare { quantity = quantities.Speed; measure = measures.SpeedBy 9; field = 5; words = wordings.Of 6 } ∷
          record bare { quantity = quantities.Set; item = items.Named which.True; measure = measures.Degrees; field = 7 } ∷
          record bare { quantity = quantities.Drift; measure = measures.SpeedBy 9; field = 8 } ∷
          [];
    } ∷
    -- origin 1: range and bearing, variable range marker, electronic bearing line; the same of origin 2; cursor: range and bearing; range scale, its unit;
    -- course up, head up or north up
    record plain {
      formatter = codes "RSD";
      fields = Number ∷ Number ∷ Number ∷ Number ∷ Number ∷ Number ∷ Number ∷ Number ∷ Number ∷ Number ∷ Number ∷ Letter (codes "KNS") ∷ Letter (codes "CHN") ∷ [];
      text = codes "origin 1 2 vrm 3 ebl 4 origin 5 6 vrm 7 ebl 8 cursor 9 A scale B units C rotation D";
      columns =
          record bare { quantity = quantities.RadarRange; item = items.Named which.Origin1; measure = measures.DistanceBy 12 } ∷
          record bare { quantity = quantities.RadarBearing; item = items.Named which.Origin1; measure = measures.Degrees; field = 2 } ∷
          record bare { quantity = quantities.RadarRange; item = items.Named which.Vrm1; measure = measures.DistanceBy 12; field = 3 } ∷
          record bare { quantity = quantities.RadarBearing; item = items.Named which.Ebl1; measure = measures.Degrees; field = 4 } ∷
          record bare { quantity = quantities.RadarRange; item = items.Named which.Origin2; measure = measures.DistanceBy 12; field = 5 } ∷
          record bare { quantity = quantities.RadarBearing; item = items.Named which.Origin2; measure = measures.Degrees; field = 6 } ∷
          record bare { quantity = quantities.RadarRange; item = items.Named which.Vrm2; measure = measures.DistanceBy 12; field = 7 } ∷
          record bare { quantity = quantities.RadarBearing; item = items.Named which.Ebl2; measure = measures.Degrees; field = 8 } ∷
          record bare { quantity = quantities.RadarRange; item = items.Named which.Cursor; measure = measures.DistanceBy 12; field = 9 } ∷
          record bare { quantity = quantities.RadarBearing; item = items.Named which.Cursor; measure = measures.Degrees; field = 10 } ∷
          record bare { quantity = quantities.RadarRange; item = items.Named which.Scale; measure = measures.DistanceBy 12; field = 11 } ∷
          [];
    } ∷ []
