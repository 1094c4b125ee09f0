-- An i8 is an i32. Assumes nothing.
use lib.IntN.{ℤ}
use mir.Facts.{sfits_widen}
use mir.Syntax.{w8, w32}
use mir.Val.{SFits}

pub wider : {z : ℤ} → SFits w8 z → SFits w32 z
wider f = sfits_widen tt f
