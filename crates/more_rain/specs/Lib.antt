pub mod MoreRain
