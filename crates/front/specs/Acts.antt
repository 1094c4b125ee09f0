-- What the front's answer stands for.
use Rattle.std.specs.Prelude.{ℕ, ◌≡◌, List}
use Rattle.layout.specs.Table.{request}
use Rattle.layout.specs.Reading.{refused as not-read, read}
use Rattle.layout.specs.Writing.{Told, stored as told-stored, refused as told-refused}
use Rattle.layout.specs.Front.{Act, handed-on, stored, refused, FrontOutcome}
use Rattle.front.specs.declared.Fronted.{Fronted}
use Rattle.front.specs.declared.Fronted.TheVariants.{HandedOn, Stored, Refused}

-- document 01's act for every case
abbrev pub act_of : Fronted → Act
act_of HandedOn = handed-on
act_of (Stored n) = stored n
act_of (Refused n p) = refused n p

-- the act of a front whose writer told this
abbrev pub act_told : Told → Act
act_told (told-stored n) = stored n
act_told (told-refused n p) = refused n p

-- a front that left the buffer n and answered r did what w says
pub record Fronts (w : FrontOutcome) (n : List ℕ) (r : Fronted) : Type 0 where
  pub acts : act_of r ≡ w.act
  pub leaves : n ≡ w.buffer

-- the reader refuses the request m with this number
pub record RefusedWith (m : List ℕ) (n : ℕ) : Type 0 where
  pub place : ℕ
  pub is : read request m ≡ not-read n place
