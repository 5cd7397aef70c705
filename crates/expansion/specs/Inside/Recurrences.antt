-- The code's recurrence as the definitions take it. Definition only.
use Rattle.expansion.specs.declared.sdmn.Recurrence.{Recurrence}
use Rattle.expansion.specs.Sdmn as Sdmn

abbrev pub defined : Recurrence → Sdmn.Recurrence
defined r = record { m = r.m; ip = r.ip; cs = r.cs; cv = r.cv }
