-- The table of sentences: rudder, engines, thrusters, steering, and what sensors measure.
use Rattle.std.specs.Prelude.{List, [], ◌∷◌, Some, codes}
use Rattle.vdr_values.specs.Forms.{Number, Time, Digits, Letter, Raw}
use Rattle.vdr_values.specs.declared.column.Quantity.TheVariants as quantities
use Rattle.vdr_values.specs.declared.column.Item.TheVariants as items
use Rattle.vdr_values.specs.declared.column.Which.TheVariants as which
use Rattle.vdr_values.specs.declared.column.Measure.TheVariants as measures
use Rattle.vdr_values.specs.declared.column.Validity.TheVariants as validities
use Rattle.vdr_values.specs.declared.column.Words.TheVariants as wordings
use Rattle.vdr_values.specs.Columns.{bare, not_valid}
use Rattle.vdr_values.specs.Rows.{Row, plain, status, capital, digit}

abbrev pub machinery : List Row
machinery =
    -- starboard or single rudder sensor in degrees, its status; port rudder sensor, its status
    record plain {
      formatter = codes "RSA";
      fields = Number ∷ status ∷ Number ∷ status ∷ [];
      text = codes "starboard 1 status 2 port 3 status 4";
      columns =
          record bare { quantity = quantities.Rudder; item = items.Named which.Starboard; measure = measures.Degrees; valid = validities.Status 2 } ∷
          record bare { quantity = quantities.Rudder; item = items.Named which.Port; measure = measures.Degrees; field = 3; valid = validities.Status 4 } ∷
          [];
    } ∷
    -- order to the starboard or single rudder in degrees, its status; to the port rudder, its status; where the order is given: on the bridge, its port
    -- or starboard wing or a wing, in the engine control room, or at the engine
    record plain {
      formatter = codes "ROR";
      fields = Number ∷ status ∷ Number ∷ status ∷ Letter (codes "BPSCEW") ∷ [];
      text = codes "starboard 1 status 2 port 3 status 4 from 5";
      columns =
          record bare { quantity = quantities.RudderOrder; item = items.Named which.Starboard; measure = measures.Degrees; valid = validities.Status 2 } ∷
          record bare { quantity = quantities.RudderOrder; item = items.Named which.Port; measure = measures.Degrees; field = 3; valid = validities.Status 4 } ∷
          [];
    } ∷
    -- S for shaft or E for engine, its number; revolutions a minute; propeller pitch in percent; status
    record plain {
      formatter = codes "RPM";
      fields = Letter (codes "SE") ∷ Digits 2 0 99 ∷ Number ∷ Number ∷ status ∷ [];
      text = codes "of 1 number 2 speed 3 pitch 4 status 5";
      columns =
          record bare { quantity = quantities.Revolutions; item = items.Beside 1 2; measure = measures.Revolutions; field = 3; valid = validities.Status 5 } ∷
          record bare { quantity = quantities.Pitch; item = items.Beside 1 2; measure = measures.Percent; field = 4; valid = validities.Status 5 } ∷
          [];
    } ∷
    -- position of the lever in percent, its status; speed demanded, P in percent, R in revolutions a minute or V where it is not valid; pitch demanded, P
    -- in percent, D in degrees or V; where it is operated, as of ROR; number of the engine or shaft
    record plain {
      formatter = codes "PRC";
      fields = Number ∷ status ∷ Number ∷ Letter (codes "PRV") ∷ Number ∷ Letter (codes "PDV") ∷ Letter (codes "BPSCEW") ∷ digit ∷ [];
      text = codes "lever 1 status 2 speed 3 mode 4 pitch 5 mode 6 from 7 number 8";
      columns =
          record bare { quantity = quantities.EngineOrder; item = items.Told 8; measure = measures.Percent; valid = validities.Status 2 } ∷
          record bare { quantity = quantities.EngineSpeedOrder; item = items.Told 8; measure = measures.DemandBy 4; field = 3; valid = validities.Unless 4 not_valid } ∷
          record bare { quantity = quantities.PitchOrder; item = items.Told 8; measure = measures.DemandBy 6; field = 5; valid = validities.Unless 6 not_valid } ∷
          [];
    } ∷
    -- time; O for an order, A for its answer; position of the engine telegraph, of the sub telegraph; where it is operated, as of ROR; number of the
    -- engine or shaft
    record plain {
      formatter = codes "ETL";
      fields = Time ∷ Letter (codes "OA") ∷ Digits 2 0 99 ∷ Digits 2 0 99 ∷ Letter (codes "BPSCEW") ∷ digit ∷ [];
      text = codes "time 1 type 2 telegraph 3 sub 4 from 5 number 6";
      columns =
          record bare { quantity = quantities.EngineOrder; item = items.Beside 2 6; field = 3 } ∷
          record bare { quantity = quantities.EngineSubOrder; item = items.Beside 2 6; field = 4 } ∷
          [];
    } ∷
    -- number of the thruster, odd at the bow and even at the stern; speed demanded, its mode, pitch demanded, its mode, as of PRC; azimuth demanded in
    -- degrees; where it is operated, as of ROR; R for a report, C for a command
    record plain {
      formatter = codes "TRC";
      fields = digit ∷ Number ∷ Letter (codes "PRV") ∷ Number ∷ Letter (codes "PDV") ∷ Number ∷ Letter (codes "BPSCEW") ∷ Letter (codes "RC") ∷ [];
      text = codes "number 1 speed 2 mode 3 pitch 4 mode 5 azimuth 6 from 7 flag 8";
      columns =
          record bare { quantity = quantities.ThrusterSpeedOrder; item = items.Told 1; measure = measures.DemandBy 3; field = 2; valid = validities.Unless 3 not_valid } ∷
          record bare { quantity = quantities.ThrusterPitchOrder; item = items.Told 1; measure = measures.DemandBy 5; field = 4; valid = validities.Unless 5 not_valid } ∷
          record bare { quantity = quantities.ThrusterAzimuthOrder; item = items.Told 1; measure = measures.Degrees; field = 6 } ∷
          [];
    } ∷
    -- number of the thruster; its speed, pitch and azimuth, as those demanded of TRC
    record plain {
      formatter = codes "TRD";
      fields = digit ∷ Number ∷ Letter (codes "PRV") ∷ Number ∷ Letter (codes "PDV") ∷ Number ∷ [];
      text = codes "number 1 speed 2 mode 3 pitch 4 mode 5 azimuth 6";
      columns =
          record bare { quantity = quantities.ThrusterSpeed; item = items.Told 1; measure = measures.DemandBy 3; field = 2; valid = validities.Unless 3 not_valid } ∷
          record bare { quantity = quantities.ThrusterPitch; item = items.Told 1; measure = measures.DemandBy 5; field = 4; valid = validities.Unless 5 not_valid } ∷
          record bare { quantity = quantities.ThrusterAzimuth; item = items.Told 1; measure = measures.Degrees; field = 6 } ∷
          [];
    } ∷
    -- depth below the transducer, offset of the transducer, greatest range in use, in metres
    record plain {
      formatter = codes "DPT";
      fields = Number ∷ Number ∷ Number ∷ [];
      shorter = 2 ∷ [];
      text = codes "depth 1 offset 2 range 3";
      columns =
          record bare { quantity = quantities.Depth; measure = measures.Metres } ∷
          record bare { quantity = quantities.DepthOffset; measure = measures.Metres; field = 2 } ∷
          record bare { quantity = quantities.DepthRange; measure = measures.Metres; field = 3 } ∷
          [];
    } ∷
    -- depth below the transducer, f in feet, M in metres, F in fathoms
    record plain {
      formatter = codes "DBT";
      fields = Number ∷ Letter (codes "f") ∷ Number ∷ Letter (codes "M") ∷ Number ∷ Letter (codes "F") ∷ [];
      text = codes "feet 1 metres 3 fathoms 5";
      columns =
          record bare { quantity = quantities.Depth; measure = measures.Feet } ∷
          record bare { quantity = quantities.Depth; measure = measures.Metres; field = 3 } ∷
          record bare { quantity = quantities.Depth; measure = measures.Fathoms; field = 5 } ∷
          [];
    } ∷
    -- wind angle, R for relative or T for true; wind speed, its unit; status
    record plain {
      formatter = codes "MWV";
      fields = Number ∷ Letter (codes "RT") ∷ Number ∷ Letter (codes "KMNS") ∷ status ∷ [];
      text = codes "angle 1 ref 2 speed 3 unit 4 status 5";
      columns =
          record bare { quantity = quantities.WindAngle; item = items.Told 2; measure = measures.Degrees; valid = validities.Status 5 } ∷
          record bare { quantity = quantities.WindSpeed; item = items.Told 2; measure = measures.SpeedBy 4; field = 3; valid = validities.Status 5 } ∷
          [];
    } ∷
    -- wind direction, T for true and M for magnetic; wind speed, N in knots and M in metres a second
    record plain {
      formatter = codes "MWD";
      fields = Number ∷ Letter (codes "T") ∷ Number ∷ Letter (codes "M") ∷ Number ∷ Letter (codes "N") ∷ Number ∷ Letter (codes "M") ∷ [];
      text = codes "true 1 magnetic 3 knots 5 ms 7";
      columns =
          record bare { quantity = quantities.WindDirection; item = items.Named which.True; measure = measures.Degrees } ∷
          record bare { quantity = quantities.WindDirection; item = items.Named which.Magnetic; measure = measures.Degrees; field = 3 } ∷
          record bare { quantity = quantities.WindSpeed; item = items.Named which.True; measure = measures.Knots; field = 5 } ∷
          record bare { quantity = quantities.WindSpeed; item = items.Named which.True; measure = measures.MetresASecond; field = 7 } ∷
          [];
    } ∷
    -- water temperature, C in degrees Celsius
    record plain {
      formatter = codes "MTW";
      fields = Number ∷ Letter (codes "C") ∷ [];
      text = codes "temperature 1";
      columns =
          record bare { quantity = quantities.WaterTemperature; measure = measures.Celsius } ∷
          [];
    } ∷
    -- validity; number of the data set; layer, its depth in metres; direction of the current, T for true or R for relative, its speed in knots; depth of
    -- the reference layer; heading, T for true or M for magnetic; speed by bottom track, water track or positioning
    record plain {
      formatter = codes "CUR";
      fields = status ∷ digit ∷ Number ∷ Number ∷ Number ∷ Letter (codes "TR") ∷ Number ∷ Number ∷ Number ∷ Letter (codes "TM") ∷ Letter (codes "BWP") ∷ [];
      text = codes "status 1 set 2 layer 3 depth 4 direction 5 6 knots 7 reference 8 heading 9 A by B";
      columns =
          record bare { quantity = quantities.CurrentDepth; item = items.Dotted 2 3; measure = measures.Metres; field = 4; valid = validities.Status 1 } ∷
          record bare { quantity = quantities.Set; item = items.Dotted 2 3; measure = measures.Degrees; field = 5; valid = validities.Status 1; words = wordings.Of 6 } ∷
          record bare { quantity = quantities.Drift; item = items.Dotted 2 3; measure = measures.Knots; field = 7; valid = validities.Status 1 } ∷
          [];
    } ∷
    -- override; commanded rudder angle in degrees, L or R; steering mode; turn mode; limits of rudder and off heading; radius and rate of turn; heading
    -- to steer; off-track limit in nautical miles; track; T for true or M for magnetic
    record plain {
      formatter = codes "HTC";
      fields = status ∷ Number ∷ Letter (codes "LR") ∷ Letter (codes "MSHTR") ∷ Letter (codes "RTN") ∷ Number ∷ Number ∷ Number ∷ Number ∷ Number ∷ Number ∷ Number ∷ Letter (codes "TM") ∷ [];
      text = codes "override 1 rudder 2 3 mode 4 turn 5 limits 6 7 radius 8 rate 9 steer A offtrack B track C ref D";
      columns =
          record bare { quantity = quantities.RudderOrder; measure = measures.Degrees; field = 2; toward = Some 3 } ∷
          record bare { quantity = quantities.RudderLimit; measure = measures.Degrees; field = 6 } ∷
          record bare { quantity = quantities.HeadingLimit; measure = measures.Degrees; field = 7 } ∷
          record bare { quantity = quantities.TurnRadius; measure = measures.NauticalMiles; field = 8 } ∷
          record bare { quantity = quantities.TurnRate; measure = measures.DegreesAMinute; field = 9 } ∷
          record bare { quantity = quantities.HeadingToSteer; item = items.Told 13; measure = measures.Degrees; field = 10 } ∷
          record bare { quantity = quantities.TrackLimit; measure = measures.NauticalMiles; field = 11 } ∷
          record bare { quantity = quantities.TrackOrder; item = items.Told 13; measure = measures.Degrees; field = 12 } ∷
          [];
    } ∷
    -- as HTC; status of the limits of rudder, off heading and off track; heading
    record plain {
      formatter = codes "HTD";
      fields = status ∷ Number ∷ Letter (codes "LR") ∷ Letter (codes "MSHTR") ∷ Letter (codes "RTN") ∷ Number ∷ Number ∷ Number ∷ Number ∷ Number ∷ Number ∷ Number ∷ Letter (codes "TM") ∷ status ∷ status ∷ status ∷ Number ∷ [];
      text = codes "override 1 rudder 2 3 mode 4 turn 5 limits 6 7 radius 8 rate 9 steer A offtrack B track C ref D status E F G heading H";
      columns =
          record bare { quantity = quantities.RudderOrder; measure = measures.Degrees; field = 2; toward = Some 3 } ∷
          record bare { quantity = quantities.RudderLimit; measure = measures.Degrees; field = 6 } ∷
          record bare { quantity = quantities.HeadingLimit; measure = measures.Degrees; field = 7 } ∷
          record bare { quantity = quantities.TurnRadius; measure = measures.NauticalMiles; field = 8 } ∷
          record bare { quantity = quantities.TurnRate; measure = measures.DegreesAMinute; field = 9 } ∷
          record bare { quantity = quantities.HeadingToSteer; item = items.Told 13; measure = measures.Degrees; field = 10 } ∷
          record bare { quantity = quantities.TrackLimit; measure = measures.NauticalMiles; field = 11 } ∷
          record bare { quantity = quantities.TrackOrder; item = items.Told 13; measure = measures.Degrees; field = 12 } ∷
          record bare { quantity = quantities.Heading; item = items.Told 13; measure = measures.Degrees; field = 17 } ∷
          [];
    } ∷
    -- type of the transducer, what it measures, in which unit, its name; again for each transducer. A sentence has room for fourteen that measure something
    record plain {
      formatter = codes "XDR";
      text = codes "transducers";
      group = capital ∷ Number ∷ capital ∷ Raw ∷ [];
      columns =
          record bare { quantity = quantities.Transducer; item = items.Beside 1 3; field = 2; words = wordings.Of 4 } ∷
          record bare { quantity = quantities.Transducer; item = items.Beside 5 7; field = 6; words = wordings.Of 8 } ∷
          record bare { quantity = quantities.Transducer; item = items.Beside 9 11; field = 10; words = wordings.Of 12 } ∷
          record bare { quantity = quantities.Transducer; item = items.Beside 13 15; field = 14; words = wordings.Of 16 } ∷
          record bare { quantity = quantities.Transducer; item = items.Beside 17 19; field = 18; words = wordings.Of 20 } ∷
          record bare { quantity = quantities.Transducer; item = items.Beside 21 23; field = 22; words = wordings.Of 24 } ∷
          record bare { quantity = quantities.Transducer; item = items.Beside 25 27; field = 26; words = wordings.Of 28 } ∷
          record bare { quantity = quantities.Transducer; item = items.Beside 29 31; field = 30; words = wordings.Of 32 } ∷
          record bare { quantity = quantities.Transducer; item = items.Beside 33 35; field = 34; words = wordings.Of 36 } ∷
          record bare { quantity = quantities.Transducer; item = items.Beside 37 39; field = 38; words = wordings.Of 40 } ∷
          record bare { quantity = quantities.Transducer; item = items.Beside 41 43; field = 42; words = wordings.Of 44 } ∷
          record bare { quantity = quantities.Transducer; item = items.Beside 45 47; field = 46; words = wordings.Of 48 } ∷
          record bare { quantity = quantities.Transducer; item = items.Beside 49 51; field = 50; words = wordings.Of 52 } ∷
          record bare { quantity = quantities.Transducer; item = items.Beside 53 55; field = 54; words = wordings.Of 56 } ∷
          [];
    } ∷
    -- point of measurement, hull stress there, status
    record plain {
      formatter = codes "HSS";
      fields = Raw ∷ Number ∷ status ∷ [];
      text = codes "point 1 value 2 status 3";
      columns =
          record bare { quantity = quantities.HullStress; field = 2; valid = validities.Status 3; words = wordings.Of 1 } ∷
          [];
    } ∷ []
