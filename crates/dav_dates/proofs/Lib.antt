mod Moment
mod HttpDate
mod FieldText
mod Calendars
mod CreationDate
