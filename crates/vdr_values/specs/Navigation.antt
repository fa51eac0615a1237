-- The table of sentences: position, course, heading, speed, time and route.
use Rattle.std.specs.Prelude.{List, [], ◌∷◌, Some, codes}
use Rattle.vdr_values.specs.Forms.{Number, Whole, Time, Date, Digits, Letter, Raw}
use Rattle.vdr_values.specs.declared.column.Quantity.TheVariants as quantities
use Rattle.vdr_values.specs.declared.column.Item.TheVariants as items
use Rattle.vdr_values.specs.declared.column.Which.TheVariants as which
use Rattle.vdr_values.specs.declared.column.Measure.TheVariants as measures
use Rattle.vdr_values.specs.declared.column.Validity.TheVariants as validities
use Rattle.vdr_values.specs.declared.column.Words.TheVariants as wordings
use Rattle.vdr_values.specs.Columns.{bare, not_valid, no_fix, no_quality}
use Rattle.vdr_values.specs.Rows.{Row, plain, latitude, longitude, fine_latitude, fine_longitude, status, capital, digit}

abbrev pub navigation : List Row
navigation =
    -- heading, T for true
    record plain {
      formatter = codes "HDT";
      fields = Number ∷ Letter (codes "T") ∷ [];
      text = codes "heading 1";
      columns =
          record bare { quantity = quantities.Heading; measure = measures.Degrees } ∷
          [];
    } ∷
    -- true heading, mode
    record plain {
      formatter = codes "THS";
      fields = Number ∷ capital ∷ [];
      text = codes "heading 1 mode 2";
      columns =
          record bare { quantity = quantities.Heading; measure = measures.Degrees; valid = validities.Unless 2 not_valid } ∷
          [];
    } ∷
    -- rate of turn in degrees per minute, negative where the bow turns to port; status
    record plain {
      formatter = codes "ROT";
      fields = Number ∷ status ∷ [];
      text = codes "rate 1 status 2";
      columns =
          record bare { quantity = quantities.RateOfTurn; measure = measures.DegreesAMinute; valid = validities.Status 2 } ∷
          [];
    } ∷
    -- UTC of the position, status; latitude, longitude, each with its hemisphere; speed over ground in knots, true course over ground; date;
    -- magnetic variation, E or W; mode; navigational status: safe, caution, unsafe or not valid
    record plain {
      formatter = codes "RMC";
      fields = Time ∷ status ∷ fine_latitude ∷ Letter (codes "NS") ∷ fine_longitude ∷ Letter (codes "EW") ∷ Number ∷ Number ∷ Date ∷ Number ∷ Letter (codes "EW") ∷ capital ∷ Letter (codes "SCUV") ∷ [];
      shorter = 11 ∷ 12 ∷ [];
      text = codes "time 1 status 2 lat 3 4 lon 5 6 knots 7 course 8 date 9 variation A B mode C nav D";
      columns =
          record bare { quantity = quantities.Latitude; measure = measures.Degrees; field = 3; toward = Some 4; valid = validities.Status 2 } ∷
          record bare { quantity = quantities.Longitude; measure = measures.Degrees; field = 5; toward = Some 6; valid = validities.Status 2 } ∷
          record bare { quantity = quantities.Course; item = items.Named which.True; measure = measures.Degrees; field = 8; valid = validities.Status 2 } ∷
          record bare { quantity = quantities.Speed; measure = measures.Knots; field = 7; valid = validities.Status 2 } ∷
          record bare { quantity = quantities.MagneticVariation; measure = measures.Degrees; field = 10; toward = Some 11; valid = validities.Status 2 } ∷
          [];
    } ∷
    -- UTC; latitude, longitude; a letter of mode for each system of satellites; satellites in use; horizontal dilution of precision; antenna above
    -- mean sea level and geoid above the ellipsoid, in metres; age of differential data in seconds, its station; navigational status
    record plain {
      formatter = codes "GNS";
      fields = Time ∷ fine_latitude ∷ Letter (codes "NS") ∷ fine_longitude ∷ Letter (codes "EW") ∷ Raw ∷ Digits 2 0 99 ∷ Number ∷ Number ∷ Number ∷ Number ∷ Number ∷ Letter (codes "SCUV") ∷ [];
      shorter = 12 ∷ [];
      text = codes "time 1 lat 2 3 lon 4 5 mode 6 satellites 7 hdop 8 altitude 9 separation A age B station C nav D";
      columns =
          record bare { quantity = quantities.Latitude; measure = measures.Degrees; field = 2; toward = Some 3; valid = validities.Unless 6 no_fix } ∷
          record bare { quantity = quantities.Longitude; measure = measures.Degrees; field = 4; toward = Some 5; valid = validities.Unless 6 no_fix } ∷
          record bare { quantity = quantities.Satellites; field = 7; valid = validities.Unless 6 no_fix } ∷
          record bare { quantity = quantities.Hdop; field = 8; valid = validities.Unless 6 no_fix } ∷
          record bare { quantity = quantities.Altitude; measure = measures.Metres; field = 9; valid = validities.Unless 6 no_fix } ∷
          record bare { quantity = quantities.GeoidSeparation; measure = measures.Metres; field = 10; valid = validities.Unless 6 no_fix } ∷
          record bare { quantity = quantities.CorrectionAge; measure = measures.Seconds; field = 11; valid = validities.Unless 6 no_fix } ∷
          [];
    } ∷
    -- UTC; latitude, longitude; quality; satellites in use; horizontal dilution of precision; antenna above mean sea level and geoid above the
    -- ellipsoid, M for metres; age of differential data in seconds, its station
    record plain {
      formatter = codes "GGA";
      fields = Time ∷ fine_latitude ∷ Letter (codes "NS") ∷ fine_longitude ∷ Letter (codes "EW") ∷ digit ∷ Digits 2 0 99 ∷ Number ∷ Number ∷ Letter (codes "M") ∷ Number ∷ Letter (codes "M") ∷ Number ∷ Digits 4 0 9999 ∷ [];
      text = codes "time 1 lat 2 3 lon 4 5 quality 6 satellites 7 hdop 8 altitude 9 separation B age D station E";
      columns =
          record bare { quantity = quantities.Latitude; measure = measures.Degrees; field = 2; toward = Some 3; valid = validities.Unless 6 no_quality } ∷
          record bare { quantity = quantities.Longitude; measure = measures.Degrees; field = 4; toward = Some 5; valid = validities.Unless 6 no_quality } ∷
          record bare { quantity = quantities.Satellites; field = 7; valid = validities.Unless 6 no_quality } ∷
          record bare { quantity = quantities.Hdop; field = 8; valid = validities.Unless 6 no_quality } ∷
          record bare { quantity = quantities.Altitude; measure = measures.Metres; field = 9; valid = validities.Unless 6 no_quality } ∷
          record bare { quantity = quantities.GeoidSeparation; measure = measures.Metres; field = 11; valid = validities.Unless 6 no_quality } ∷
          record bare { quantity = quantities.CorrectionAge; measure = measures.Seconds; field = 13; valid = validities.Unless 6 no_quality } ∷
          [];
    } ∷
    -- latitude, longitude, each with its hemisphere; UTC of the position; status, mode
    record plain {
      formatter = codes "GLL";
      fields = latitude ∷ Letter (codes "NS") ∷ longitude ∷ Letter (codes "EW") ∷ Time ∷ status ∷ capital ∷ [];
      shorter = 6 ∷ [];
      text = codes "lat 1 2 lon 3 4 time 5 status 6 mode 7";
      columns =
          record bare { quantity = quantities.Latitude; measure = measures.Degrees; toward = Some 2; valid = validities.Status 6 } ∷
          record bare { quantity = quantities.Longitude; measure = measures.Degrees; field = 3; toward = Some 4; valid = validities.Status 6 } ∷
          [];
    } ∷
    -- course over ground, T for true and M for magnetic; speed over ground, N in knots and K in kilometres an hour; mode
    record plain {
      formatter = codes "VTG";
      fields = Number ∷ Letter (codes "T") ∷ Number ∷ Letter (codes "M") ∷ Number ∷ Letter (codes "N") ∷ Number ∷ Letter (codes "K") ∷ capital ∷ [];
      shorter = 8 ∷ [];
      text = codes "true 1 magnetic 3 knots 5 kmh 7 mode 9";
      columns =
          record bare { quantity = quantities.Course; item = items.Named which.True; measure = measures.Degrees; valid = validities.Unless 9 no_fix } ∷
          record bare { quantity = quantities.Course; item = items.Named which.Magnetic; measure = measures.Degrees; field = 3; valid = validities.Unless 9 no_fix } ∷
          record bare { quantity = quantities.Speed; measure = measures.Knots; field = 5; valid = validities.Unless 9 no_fix } ∷
          record bare { quantity = quantities.Speed; measure = measures.KilometresAnHour; field = 7; valid = validities.Unless 9 no_fix } ∷
          [];
    } ∷
    -- UTC; day, month, year; hours and minutes of the local zone
    record plain {
      formatter = codes "ZDA";
      fields = Time ∷ Digits 2 1 31 ∷ Digits 2 1 12 ∷ Digits 4 0 9999 ∷ Whole 14 ∷ Digits 2 0 59 ∷ [];
      text = codes "time 1 day 2 month 3 year 4 zone 5 6";
      columns =
          record bare { quantity = quantities.Clock; words = wordings.Clock 2 3 4 } ∷
          [];
    } ∷
    -- speed in knots, ahead and to starboard: through the water, its status, over ground, its status; of the stern to starboard through the water, its
    -- status, over ground, its status
    record plain {
      formatter = codes "VBW";
      fields = Number ∷ Number ∷ status ∷ Number ∷ Number ∷ status ∷ Number ∷ status ∷ Number ∷ status ∷ [];
      shorter = 6 ∷ [];
      text = codes "water 1 2 status 3 ground 4 5 status 6 stern water 7 status 8 ground 9 status A";
      columns =
          record bare { quantity = quantities.SpeedWater; item = items.Named which.Ahead; measure = measures.Knots; valid = validities.Status 3 } ∷
          record bare { quantity = quantities.SpeedWater; item = items.Named which.Across; measure = measures.Knots; field = 2; valid = validities.Status 3 } ∷
          record bare { quantity = quantities.SpeedGround; item = items.Named which.Ahead; measure = measures.Knots; field = 4; valid = validities.Status 6 } ∷
          record bare { quantity = quantities.SpeedGround; item = items.Named which.Across; measure = measures.Knots; field = 5; valid = validities.Status 6 } ∷
          record bare { quantity = quantities.SpeedWater; item = items.Named which.Stern; measure = measures.Knots; field = 7; valid = validities.Status 8 } ∷
          record bare { quantity = quantities.SpeedGround; item = items.Named which.Stern; measure = measures.Knots; field = 9; valid = validities.Status 10 } ∷
          [];
    } ∷
    -- heading, T for true and M for magnetic; speed through the water, N in knots and K in kilometres an hour
    record plain {
      formatter = codes "VHW";
      fields = Number ∷ Letter (codes "T") ∷ Number ∷ Letter (codes "M") ∷ Number ∷ Letter (codes "N") ∷ Number ∷ Letter (codes "K") ∷ [];
      text = codes "true 1 magnetic 3 knots 5 kmh 7";
      columns =
          record bare { quantity = quantities.Heading; item = items.Named which.True; measure = measures.Degrees } ∷
          record bare { quantity = quantities.Heading; item = items.Named which.Magnetic; measure = measures.Degrees; field = 3 } ∷
          record bare { quantity = quantities.SpeedWater; item = items.Named which.Ahead; measure = measures.Knots; field = 5 } ∷
          record bare { quantity = quantities.SpeedWater; item = items.Named which.Ahead; measure = measures.KilometresAnHour; field = 7 } ∷
          [];
    } ∷
    -- distance through the water, in all and since reset, and over ground, in all and since reset, each N in nautical miles
    record plain {
      formatter = codes "VLW";
      fields = Number ∷ Letter (codes "N") ∷ Number ∷ Letter (codes "N") ∷ Number ∷ Letter (codes "N") ∷ Number ∷ Letter (codes "N") ∷ [];
      shorter = 4 ∷ [];
      text = codes "water 1 reset 3 ground 5 reset 7";
      columns =
          record bare { quantity = quantities.DistanceWater; item = items.Named which.Total; measure = measures.NauticalMiles } ∷
          record bare { quantity = quantities.DistanceWater; item = items.Named which.Reset; measure = measures.NauticalMiles; field = 3 } ∷
          record bare { quantity = quantities.DistanceGround; item = items.Named which.Total; measure = measures.NauticalMiles; field = 5 } ∷
          record bare { quantity = quantities.DistanceGround; item = items.Named which.Reset; measure = measures.NauticalMiles; field = 7 } ∷
          [];
    } ∷
    -- magnetic sensor's heading; deviation, E or W; variation, E or W
    record plain {
      formatter = codes "HDG";
      fields = Number ∷ Number ∷ Letter (codes "EW") ∷ Number ∷ Letter (codes "EW") ∷ [];
      text = codes "heading 1 deviation 2 3 variation 4 5";
      columns =
          record bare { quantity = quantities.Heading; item = items.Named which.Magnetic; measure = measures.Degrees } ∷
          record bare { quantity = quantities.MagneticDeviation; measure = measures.Degrees; field = 2; toward = Some 3 } ∷
          record bare { quantity = quantities.MagneticVariation; measure = measures.Degrees; field = 4; toward = Some 5 } ∷
          [];
    } ∷
    -- heading, M for magnetic
    record plain {
      formatter = codes "HDM";
      fields = Number ∷ Letter (codes "M") ∷ [];
      text = codes "magnetic 1";
      columns =
          record bare { quantity = quantities.Heading; item = items.Named which.Magnetic; measure = measures.Degrees } ∷
          [];
    } ∷
    -- local datum, its subdivision; offsets of latitude and longitude in minutes, each with its direction; offset of altitude in metres; reference datum
    record plain {
      formatter = codes "DTM";
      fields = Raw ∷ Raw ∷ Number ∷ Letter (codes "NS") ∷ Number ∷ Letter (codes "EW") ∷ Number ∷ Raw ∷ [];
      text = codes "datum 1 subdivision 2 lat 3 4 lon 5 6 altitude 7 reference 8";
      columns =
          record bare { quantity = quantities.DatumOffset; item = items.Named which.Latitude; measure = measures.ArcMinutes; field = 3; toward = Some 4 } ∷
          record bare { quantity = quantities.DatumOffset; item = items.Named which.Longitude; measure = measures.ArcMinutes; field = 5; toward = Some 6 } ∷
          record bare { quantity = quantities.DatumOffset; item = items.Named which.Altitude; measure = measures.Metres; field = 7 } ∷
          [];
    } ∷
    -- set: true, magnetic; drift, N in knots
    record plain {
      formatter = codes "VDR";
      fields = Number ∷ Letter (codes "T") ∷ Number ∷ Letter (codes "M") ∷ Number ∷ Letter (codes "N") ∷ [];
      text = codes "true 1 magnetic 3 knots 5";
      columns =
          record bare { quantity = quantities.Set; item = items.Named which.True; measure = measures.Degrees } ∷
          record bare { quantity = quantities.Set; item = items.Named which.Magnetic; measure = measures.Degrees; field = 3 } ∷
          record bare { quantity = quantities.Drift; measure = measures.Knots; field = 5 } ∷
          [];
    } ∷
    -- status, status of the cycle lock; cross-track error, L or R to steer, N for nautical miles; mode
    record plain {
      formatter = codes "XTE";
      fields = status ∷ status ∷ Number ∷ Letter (codes "LR") ∷ Letter (codes "N") ∷ capital ∷ [];
      shorter = 5 ∷ [];
      text = codes "status 1 2 error 3 steer 4 mode 6";
      columns =
          record bare { quantity = quantities.CrossTrackError; item = items.Told 4; measure = measures.NauticalMiles; field = 3; valid = validities.Status 1 } ∷
          [];
    } ∷
    -- as XTE; arrival circle entered, perpendicular passed; bearing from origin to destination, M or T; destination; bearing from here to it, M or T;
    -- heading to steer to it, M or T; mode
    record plain {
      formatter = codes "APB";
      fields = status ∷ status ∷ Number ∷ Letter (codes "LR") ∷ Letter (codes "N") ∷ status ∷ status ∷ Number ∷ Letter (codes "MT") ∷ Raw ∷ Number ∷ Letter (codes "MT") ∷ Number ∷ Letter (codes "MT") ∷ capital ∷ [];
      shorter = 14 ∷ [];
      text = codes "status 1 2 error 3 steer 4 arrived 6 passed 7 origin 8 9 to A bearing B C heading D E mode F";
      columns =
          record bare { quantity = quantities.CrossTrackError; item = items.Told 4; measure = measures.NauticalMiles; field = 3; valid = validities.Status 1 } ∷
          record bare { quantity = quantities.BearingFromOrigin; item = items.Told 9; measure = measures.Degrees; field = 8; valid = validities.Status 1 } ∷
          record bare { quantity = quantities.BearingToDestination; item = items.Told 12; measure = measures.Degrees; field = 11; valid = validities.Status 1 } ∷
          record bare { quantity = quantities.HeadingToSteer; item = items.Told 14; measure = measures.Degrees; field = 13; valid = validities.Status 1 } ∷
          [];
    } ∷
    -- number of sentences, number of this one; c for the whole route, w for the part to be sailed; route; waypoints
    record plain {
      formatter = codes "RTE";
      fields = Number ∷ Number ∷ Letter (codes "cw") ∷ Raw ∷ [];
      text = codes "part 2 of 1 mode 3 route 4 waypoints";
      group = Raw ∷ [];
    } ∷
    -- latitude, longitude, each with its hemisphere; waypoint
    record plain {
      formatter = codes "WPL";
      fields = fine_latitude ∷ Letter (codes "NS") ∷ fine_longitude ∷ Letter (codes "EW") ∷ Raw ∷ [];
      text = codes "lat 1 2 lon 3 4 waypoint 5";
      columns =
          record bare { quantity = quantities.WaypointLatitude; measure = measures.Degrees; toward = Some 2; words = wordings.Of 5 } ∷
          record bare { quantity = quantities.WaypointLongitude; measure = measures.Degrees; field = 3; toward = Some 4; words = wordings.Of 5 } ∷
          [];
    } ∷ []
