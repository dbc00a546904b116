-- Where the program cuts its input (Cuts).
pub mod Cuts
