-- The field that was read; the standings read so far; what is answered; what holds from field to field.
mod Whole
mod SoFar
mod Outcomes
mod Going
mod Turns
