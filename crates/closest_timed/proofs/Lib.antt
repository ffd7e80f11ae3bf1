pub mod AllDay
