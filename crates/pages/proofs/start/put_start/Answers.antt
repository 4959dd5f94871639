use Rattle.std.proofs.Common.{refl, inl}
use Rattle.httpdate.specs.Date.{date_text}
use Rattle.pages.proofs.start.put_start.Goals as goal

-- the date that was written is of this second
pub returns-in_ok-put_date-in-Ok : goal.returns-in_ok-put_date-in-Ok
returns-in_ok-put_date-in-Ok c = (date_text c.in-Ok.date, inl (c.in-Ok.date, c.in-Ok.ensures.value, refl), c.in_ok-put_date-in-Ok.ensures)
